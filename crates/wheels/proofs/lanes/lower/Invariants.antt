-- `wheels::lanes::lower` meets its contract: the pieces in the lanes before the l-th are lowered. Assumes nothing.
use Rattle.std.proofs.Common.{◌≤◌}
use Rattle.table.specs.Run.{Wrote}
use Rattle.wheels.specs.Wheel.{lowered}
use Rattle.wheels.proofs.lanes.lower.Given as goal

abbrev pub invariant-loop-l : goal.invariant-loop-l
invariant-loop-l l = (l.l ≤ l.lanes) × Wrote (lowered l.initial.side l.at l.sums) l.at l.l l.initial.side l.side
