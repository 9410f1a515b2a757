-- `cif::numeral::number` meets its contract. The invariant: the digits so far are those of a number above 0. Assumes nothing.
use Prim.Native.Nat.{◌-◌}
use lib.ListN.{length}
use Rattle.cif.proofs.Numerals.{Reading}
use Rattle.cif.proofs.numeral.number.Given as goal

abbrev pub invariant-loop-value : goal.invariant-loop-value
invariant-loop-value l = Reading l.text l.at l.value l.next

abbrev pub decreases-loop-value : goal.decreases-loop-value
decreases-loop-value l = length l.text - l.next
