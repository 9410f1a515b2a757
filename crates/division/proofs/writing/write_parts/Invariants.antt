-- `division::writing::write_parts` meets its contract. The invariant: the rows are written as far as row i. Assumes nothing.
use Rattle.division.proofs.Loops.{Stacking}
use Rattle.division.proofs.writing.write_parts.Given as goal

abbrev pub invariant-loop-i : goal.invariant-loop-i
invariant-loop-i l = Stacking l.x l.y l.initial.list l.at l.list l.next l.i
