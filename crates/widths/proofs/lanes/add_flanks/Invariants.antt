-- `widths::lanes::add_flanks` meets its contract: the flanks before the i-th are added. Assumes nothing.
use Prim.Native.Nat.{◌≤◌}
use Rattle.table.specs.Run.{Wrote}
use Rattle.widths.specs.Lane.{narrowed}
use Rattle.widths.proofs.lanes.add_flanks.Given as goal

abbrev pub invariant-loop-i : goal.invariant-loop-i
invariant-loop-i l = (l.i ≤ l.n) × Wrote (narrowed l.rule l.widths l.initial.to l.from l.at) 0 l.i l.initial.to l.to
