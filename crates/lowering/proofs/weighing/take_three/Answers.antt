-- `lowering::weighing::take_three` meets its contract. Assumes nothing.
use Rattle.lowering.proofs.Wheels.{three_lowers}
use Rattle.lowering.proofs.weighing.take_three.Goals as goal

pub returns : goal.returns
returns c = three_lowers _ _ _ _ c.take.ensures
