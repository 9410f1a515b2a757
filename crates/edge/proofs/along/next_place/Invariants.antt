-- `edge::along::next_place` meets its contract. The invariant: no corner passed lies between. Assumes nothing.
use Prim.Native.Nat.{◌-◌}
use Rattle.edge.specs.Steps.{Free}
use Rattle.edge.proofs.along.next_place.Given as goal

abbrev pub invariant-loop-i : goal.invariant-loop-i
invariant-loop-i l = Free l.run l.list l.i l.k l.high l.best

abbrev pub decreases-loop-i : goal.decreases-loop-i
decreases-loop-i l = l.count - l.i
