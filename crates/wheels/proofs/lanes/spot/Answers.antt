-- `wheels::lanes::spot` meets its contract. Assumes nothing.
use Rattle.std.proofs.Common.{arith}
use Rattle.wheels.proofs.Steps.{spot-fits, spot-made}
use Rattle.wheels.proofs.lanes.spot.Goals as goal

pub overflow_mul-result : goal.overflow_mul-result
overflow_mul-result c = record { fits = omega (arith, spot-fits c.args.pairs c.args.v c.requires.1.0 c.requires.1.1.0) }

pub overflow_add-result : goal.overflow_add-result
overflow_add-result c = record { fits = omega (arith, spot-fits c.args.pairs c.args.v c.requires.1.0 c.requires.1.1.0, c.requires) }

pub overflow_mul-result-2 : goal.overflow_mul-result-2
overflow_mul-result-2 c = record { fits = omega (arith, spot-fits c.args.pairs c.args.v c.requires.1.0 c.requires.1.1.0, c.requires) }

pub overflow_add-result-2 : goal.overflow_add-result-2
overflow_add-result-2 c = record { fits = omega (arith, spot-fits c.args.pairs c.args.v c.requires.1.0 c.requires.1.1.0, c.requires) }

pub returns : goal.returns
returns c = spot-made _ _ _ _
