-- `cif::reading::store` meets its contract. The invariant: the shots passed are stored, and the boxes of those left stand here. Assumes nothing.
use Prim.Native.Nat.{◌≤◌}
use lib.ListN.{length}
use Rattle.cif.proofs.Words.{Storing}
use Rattle.cif.proofs.reading.store.Given as goal

abbrev pub invariant-loop-i : goal.invariant-loop-i
invariant-loop-i l = (l.next ≤ length l.text) × Storing l.text l.n l.initial.list l.next l.i l.list
