-- `count::corners::widen` meets its contract: the rows before the j-th have their reach. Assumes nothing.
use Prim.Native.Nat.{◌≤◌}
use Rattle.table.specs.Run.{Wrote}
use Rattle.count.specs.Corners.{widened}
use Rattle.count.proofs.corners.widen.Given as goal

abbrev pub invariant-loop-j : goal.invariant-loop-j
invariant-loop-j l = (l.j ≤ l.rows) × Wrote (widened l.cells l.column l.initial.reaches) 0 l.j l.initial.reaches l.reaches
