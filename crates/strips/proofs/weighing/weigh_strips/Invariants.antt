-- `strips::weighing::weigh_strips` meets its contract: the strips that begin below the line a are weighed. Assumes nothing.
use Prim.Native.Nat.{◌+◌, ◌≤◌}
use mathlib.Core.Path.{◌≡◌}
use Rattle.table.specs.Entry.{pairs_below}
use Rattle.strips.proofs.Chunk.{Strips}
use Rattle.strips.proofs.weighing.weigh_strips.Given as goal

abbrev pub invariant-loop-a : goal.invariant-loop-a
invariant-loop-a l = (l.a + l.w ≤ l.columns + 1) × ((l.first ≡ pairs_below l.columns l.a) × Strips l.columns l.pairs l.w l.table l.initial.side l.a l.side)
