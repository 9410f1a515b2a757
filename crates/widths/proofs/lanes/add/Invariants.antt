-- `widths::lanes::add` meets its contract: the numbers before the i-th are added. Assumes nothing.
use Prim.Native.Nat.{◌≤◌}
use Rattle.table.specs.Run.{Wrote}
use Rattle.widths.specs.Lane.{added}
use Rattle.widths.proofs.lanes.add.Given as goal

abbrev pub invariant-loop-i : goal.invariant-loop-i
invariant-loop-i l = (l.i ≤ l.n) × Wrote (added l.initial.to l.from l.at) 0 l.i l.initial.to l.to
