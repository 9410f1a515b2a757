-- `verdict::pinwheel::first_m` meets its contract. The invariant: no line passed does. Assumes nothing.
use Prim.Native.Nat.{◌+◌}
use Rattle.verdict.specs.Pinwheels.{Meets}
use Rattle.verdict.proofs.Search.{Passed}
use Rattle.verdict.proofs.pinwheel.first_m.Given as goal

abbrev pub invariant-loop-m : goal.invariant-loop-m
invariant-loop-m l = Passed (Meets l.costs l.s l.j.0 l.l.0 l.k.0) (l.k.0 + 1) l.m
