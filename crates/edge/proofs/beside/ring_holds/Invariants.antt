-- `edge::beside::ring_holds` meets its contract. The invariant: an odd number of the edges passed stand left of the square. Assumes nothing.
use Prim.Native.Nat.{◌-◌}
use Rattle.edge.proofs.Laws.{Round}
use Rattle.edge.proofs.beside.ring_holds.Given as goal

abbrev pub invariant-loop-end : goal.invariant-loop-end
invariant-loop-end l = Round l.ring l.x l.y l.inside l.start l.end

abbrev pub decreases-loop-end : goal.decreases-loop-end
decreases-loop-end l = l.count - l.end
