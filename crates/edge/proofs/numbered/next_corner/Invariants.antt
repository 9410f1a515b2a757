-- `edge::numbered::next_corner` meets its contract. The invariant: the edge is one of the rings from this one on. Assumes nothing.
use Rattle.edge.proofs.Numbering.{Coming}
use Rattle.edge.proofs.numbered.next_corner.Given as goal

abbrev pub invariant-loop-length : goal.invariant-loop-length
invariant-loop-length l = Coming l.corners l.lengths l.edge l.first l.length-index
