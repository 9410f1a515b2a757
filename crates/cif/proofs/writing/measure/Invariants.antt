-- `cif::writing::measure` meets its contract. The invariant: what is used and what the boxes left need is what all need. Assumes nothing.
use Rattle.cif.proofs.Putting.{Measuring}
use Rattle.cif.proofs.writing.measure.Given as goal

abbrev pub invariant-loop-i : goal.invariant-loop-i
invariant-loop-i l = Measuring l.list l.room l.i l.used
