-- `sliver::counted_sides` meets its contract. Assumes nothing.
use native.Mathlib.Omega.{arith}
use Rattle.sliver.proofs.Sides.{counted_none, counted-both}
use Rattle.sliver.proofs.counted_sides.Goals as goal

pub returns-then-spared : goal.returns-then-spared
returns-then-spared c = (counted_none _ _ _ _ c.if-spared.true, omega arith)

pub returns : goal.returns
returns c = (counted-both _ _ _ _ c.if-spared.false c.both_sides.ensures.0, c.both_sides.ensures.1)
