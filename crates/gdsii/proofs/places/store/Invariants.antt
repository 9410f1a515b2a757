-- `store` meets its contract: what is stored and what is still to come give the whole. Assumes nothing.
use Prim.Native.Nat.{◌+◌, ◌*◌, ◌-◌}
use Rattle.gdsii.proofs.Storing.{Storing}
use Rattle.gdsii.proofs.places.store.Given as goal

abbrev pub invariant-loop-i : goal.invariant-loop-i
invariant-loop-i l =
    Storing l.element l.low_x l.low_y l.initial.list l.run.first (l.run.count - 1) (l.run.first + 8 * l.i) (2 * l.i) (l.run.count - 1 - l.i) l.list
