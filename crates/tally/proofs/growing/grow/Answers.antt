-- `tally::growing::grow` meets its contract: the rows below j are grown. Assumes nothing.
use mathlib.Core.Path.{refl}
use native.Mathlib.Omega.{arith}
use Rattle.tally.proofs.Growth.{rows_more, rows_all}
use Rattle.tally.proofs.growing.grow.Goals as goal

pub loop-j-preserved : goal.loop-j-preserved
loop-j-preserved c = rows_more _ _ _ _ _ c.loop-j.invariant _ (omega (arith, c.requires.rows-most)) c.grow_row.ensures

pub returns : goal.returns
returns c = λ g ripe. rows_all _ _ _ _ _ ripe _ _ _ refl (omega arith) c.loop-j.invariant
