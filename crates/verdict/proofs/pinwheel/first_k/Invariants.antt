-- `verdict::pinwheel::first_k` meets its contract. The invariant: no line passed has one. Assumes nothing.
use Prim.Native.Nat.{◌+◌}
use Rattle.verdict.specs.Pinwheels.{WithM}
use Rattle.verdict.proofs.Search.{Passed}
use Rattle.verdict.proofs.pinwheel.first_k.Given as goal

abbrev pub invariant-loop-k : goal.invariant-loop-k
invariant-loop-k l = Passed (WithM l.costs l.s l.j.0 l.l.0) (l.s.piece.b.0 + 1) l.k
