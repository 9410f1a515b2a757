-- `wheels::lanes::add` meets its contract: the lanes before the l-th are summed up. Assumes nothing.
use Rattle.std.proofs.Common.{◌≤◌}
use Rattle.table.specs.Run.{Wrote}
use Rattle.wheels.specs.Wheel.{joined}
use Rattle.wheels.proofs.lanes.add.Given as goal

abbrev pub invariant-loop-l : goal.invariant-loop-l
invariant-loop-l l = (l.l ≤ l.lanes) × Wrote (joined l.store l.left l.right l.best) 0 l.l l.initial.sums l.sums
