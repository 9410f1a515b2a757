-- `division::writing::write_row` meets its contract. The invariant: the row is written as far as column j. Assumes nothing.
use Rattle.division.proofs.Loops.{Rowing}
use Rattle.division.proofs.writing.write_row.Given as goal

abbrev pub invariant-loop-j : goal.invariant-loop-j
invariant-loop-j l = Rowing l.x l.bottom l.top l.initial.list l.at l.list l.next l.j
