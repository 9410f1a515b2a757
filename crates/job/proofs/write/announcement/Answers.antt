-- `announcement` meets its contract: one ring has none, others have 0 and their number. Assumes nothing.
use mathlib.Core.List.{[]}
use native.Mathlib.Omega.{arith}
use Rattle.job.proofs.Writing.{announced_nothing, announced-length}
use Rattle.job.proofs.write.announcement.Goals as goal

pub returns-then-count-eq1 : goal.returns-then-count-eq1
returns-then-count-eq1 c = ((announced_nothing _ c.if-count-eq1.true []).0, omega arith)

pub returns : goal.returns
returns c = let n = announced-length _ c.if-count-eq1.false in (omega (arith, n), omega arith)
