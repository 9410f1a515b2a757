-- `cif::reading::boxes` meets its contract. The invariant: these boxes stand behind the place where it began. Assumes nothing.
use Prim.Native.Nat.{◌-◌}
use lib.ListN.{length}
use Rattle.cif.proofs.Boxing.{Walked}
use Rattle.cif.proofs.reading.boxes.Given as goal

abbrev pub invariant-loop-found : goal.invariant-loop-found
invariant-loop-found l = Walked l.text l.from l.count l.next

abbrev pub decreases-loop-found : goal.decreases-loop-found
decreases-loop-found l = length l.text - l.next
