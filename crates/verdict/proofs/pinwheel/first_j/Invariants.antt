-- `verdict::pinwheel::first_j` meets its contract. The invariant: no line passed has one. Assumes nothing.
use Prim.Native.Nat.{◌+◌}
use Rattle.verdict.specs.Pinwheels.{WithL}
use Rattle.verdict.proofs.Search.{Passed}
use Rattle.verdict.proofs.pinwheel.first_j.Given as goal

abbrev pub invariant-loop-j : goal.invariant-loop-j
invariant-loop-j l = Passed (WithL l.costs l.s) (l.s.piece.a.0 + 1) l.j
