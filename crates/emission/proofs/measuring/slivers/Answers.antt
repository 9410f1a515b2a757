-- `emission::measuring::slivers` meets its contract. Assumes nothing.
use native.Mathlib.Omega.{arith}
use Rattle.emission.proofs.Measured.{charges, sliver-told}
use Rattle.emission.proofs.measuring.slivers.Goals as goal

pub returns-then-weight-eq0 : goal.returns-then-weight-eq0
returns-then-weight-eq0 c g l z e = c.measured.ensures g l z

pub overflow_sub-result : goal.overflow_sub-result
overflow_sub-result c = omega (arith, c.requires.cost, charges c.requires.grid c.args.rule c.requires.shots, c.requires.listed.count)

pub returns : goal.returns
returns c g l z e = sliver-told g _ l z.count e c.if-weight-eq0.false
