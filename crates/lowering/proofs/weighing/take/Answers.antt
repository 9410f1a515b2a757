-- `lowering::weighing::take` meets its contract. Assumes nothing.
use Rattle.lowering.proofs.Wheels.{place_in, take_lowers}
use Rattle.lowering.proofs.weighing.take.Goals as goal

pub bounds-best-at : goal.bounds-best-at
bounds-best-at c = place_in _ _ _ c.requires.0 c.requires.1.0 c.pair_number-at.ensures.0

pub bounds-best-at-2 : goal.bounds-best-at-2
bounds-best-at-2 c = place_in _ _ _ c.requires.0 c.requires.1.0 c.pair_number-at.ensures.0

pub returns : goal.returns
returns c = take_lowers _ _ _ c.args.best.now c.requires.0 c.requires.1.0 c.requires.1.1 c.pair_number-at.ensures.0 c.cheaper-least.ensures c.min.ensures
