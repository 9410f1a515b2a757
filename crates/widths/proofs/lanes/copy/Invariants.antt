-- `widths::lanes::copy` meets its contract: the numbers before the i-th are copied. Assumes nothing.
use Prim.Native.Nat.{◌≤◌}
use Rattle.table.specs.Run.{Wrote}
use Rattle.widths.specs.Lane.{copied}
use Rattle.widths.proofs.lanes.copy.Given as goal

abbrev pub invariant-loop-i : goal.invariant-loop-i
invariant-loop-i l = (l.i ≤ l.n) × Wrote (copied l.from l.at) 0 l.i l.initial.to l.to
