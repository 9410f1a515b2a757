-- `figure::edges::crooked` meets its contract. The invariant: the edges passed change x and y by turns. Assumes nothing.
use Prim.Native.Nat.{◌-◌}
use Rattle.figure.proofs.Crooked.{Square}
use Rattle.figure.proofs.edges.crooked.Given as goal

abbrev pub invariant-loop-turn : goal.invariant-loop-turn
invariant-loop-turn l = Square l.corners l.across l.turn

abbrev pub decreases-loop-turn : goal.decreases-loop-turn
decreases-loop-turn l = l.count - l.turn
