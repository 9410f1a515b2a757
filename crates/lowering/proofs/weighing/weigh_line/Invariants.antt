-- `lowering::weighing::weigh_line` meets its contract: the pinwheels with an upper x line below l are weighed. Assumes nothing.
use Prim.Native.Nat.{◌+◌, ◌≤◌}
use Rattle.lowering.specs.Lowered.{Lowered, Among, OfLines}
use Rattle.lowering.proofs.weighing.weigh_line.Given as goal

abbrev pub invariant-loop-l : goal.invariant-loop-l
invariant-loop-l l = (l.j.0 + 1 ≤ l.l) × ((l.l ≤ l.c.0) × Lowered (Among (l.j.0 + 1) l.l (OfLines l.table l.columns l.rows l.a.0 l.c.0 l.j.0)) l.initial.best l.best)
