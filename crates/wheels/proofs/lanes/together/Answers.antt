-- `wheels::lanes::together` meets its contract. Assumes nothing.
use Rattle.std.proofs.Common.{refl}
use Rattle.wheels.specs.Wheel.{wrapped}
use Rattle.wheels.proofs.lanes.together.Goals as goal

pub returns : goal.returns
unfolding wrapped
returns c = refl
