-- `edge::beside::inside_at` meets its contract. The invariant: what is told by the rings passed, turned by those from this one on. Assumes nothing.
use Rattle.edge.proofs.Laws.{Turning}
use Rattle.edge.proofs.beside.inside_at.Given as goal

abbrev pub invariant-loop-length : goal.invariant-loop-length
invariant-loop-length l = Turning l.corners l.lengths l.x l.y l.inside l.from l.length-index
