-- `lowering::weighing::weigh` meets its contract: the pinwheels with a lower x line below j are weighed. Assumes nothing.
use Prim.Native.Nat.{◌+◌, ◌≤◌}
use Rattle.lowering.specs.Lowered.{Lowered, Among, OfLine}
use Rattle.lowering.proofs.weighing.weigh.Given as goal

abbrev pub invariant-loop-j : goal.invariant-loop-j
invariant-loop-j l = (l.a.0 + 1 ≤ l.j) × ((l.j ≤ l.c.0) × Lowered (Among (l.a.0 + 1) l.j (OfLine l.table l.columns l.rows l.a.0 l.c.0)) l.initial.best l.best)
