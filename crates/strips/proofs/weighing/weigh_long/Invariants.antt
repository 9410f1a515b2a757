-- `strips::weighing::weigh_long` meets its contract: the pieces below the e-th are weighed. Assumes nothing.
use Prim.Native.Nat.{◌≤◌}
use Rattle.strips.specs.Chunk.{Chunk}
use Rattle.strips.proofs.weighing.weigh_long.Given as goal

abbrev pub invariant-loop-e : goal.invariant-loop-e
invariant-loop-e l = (l.e ≤ l.s.pairs) × Chunk l.s.columns l.s.pairs l.s.w l.s.a 0 l.e l.table l.initial.side l.side
