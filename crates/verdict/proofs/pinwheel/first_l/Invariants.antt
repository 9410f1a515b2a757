-- `verdict::pinwheel::first_l` meets its contract. The invariant: no line passed has one. Assumes nothing.
use Prim.Native.Nat.{◌+◌}
use Rattle.verdict.specs.Pinwheels.{WithK}
use Rattle.verdict.proofs.Search.{Passed}
use Rattle.verdict.proofs.pinwheel.first_l.Given as goal

abbrev pub invariant-loop-l : goal.invariant-loop-l
invariant-loop-l l = Passed (WithK l.costs l.s l.j.0) (l.j.0 + 1) l.l
