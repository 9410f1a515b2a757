-- `wheels::lanes::gather` meets its contract: the lanes before the l-th have one more line weighed. Assumes nothing.
use Rattle.std.proofs.Common.{◌≤◌}
use Rattle.table.specs.Run.{Wrote}
use Rattle.wheels.specs.Wheel.{gathered}
use Rattle.wheels.proofs.lanes.gather.Given as goal

abbrev pub invariant-loop-l : goal.invariant-loop-l
invariant-loop-l l = (l.l ≤ l.lanes) × Wrote (gathered l.initial.best l.store l.left l.right l.inner) 0 l.l l.initial.best l.best
