-- `shot::bad_shots` meets its contract. The invariant: what 21 says is told by the shots from this place on. Assumes nothing.
use Prim.Native.Nat.{◌-◌}
use lib.ListN.{length}
use Rattle.shot.proofs.Bad.{Passed}
use Rattle.shot.proofs.bad_shots.Given as goal

abbrev pub invariant-loop-at : goal.invariant-loop-at
invariant-loop-at l = Passed l.list l.at

abbrev pub decreases-loop-at : goal.decreases-loop-at
decreases-loop-at l = length l.list - l.at
