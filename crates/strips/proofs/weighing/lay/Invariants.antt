-- `strips::weighing::lay` meets its contract: the numbers before the i-th are laid. Assumes nothing.
use Prim.Native.Nat.{◌≤◌}
use Rattle.strips.specs.Chunk.{listed, Laid}
use Rattle.strips.proofs.weighing.lay.Given as goal

abbrev pub invariant-loop-i : goal.invariant-loop-i
invariant-loop-i l = (l.i ≤ l.n) × Laid (listed l.list) l.a l.e l.i l.initial.side l.side
