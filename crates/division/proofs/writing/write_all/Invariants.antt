-- `division::writing::write_all` meets its contract. The invariant: the shots are written as far as shot k. Assumes nothing.
use Rattle.division.proofs.Loops.{Filling}
use Rattle.division.proofs.writing.write_all.Given as goal

abbrev pub invariant-loop-k : goal.invariant-loop-k
invariant-loop-k l = Filling l.shots l.n l.largest l.initial.list l.list l.next l.k
