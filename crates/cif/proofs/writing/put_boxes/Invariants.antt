-- `cif::writing::put_boxes` meets its contract. The invariant: the boxes put and those still to be put give the whole. Assumes nothing.
use Rattle.cif.proofs.Putting.{Boxing}
use Rattle.cif.proofs.writing.put_boxes.Given as goal

abbrev pub invariant-loop-i : goal.invariant-loop-i
invariant-loop-i l = Boxing l.list l.initial.out l.from l.i l.next l.out
