-- `join::mate` meets its contract. The invariant: the search from j on gives what the whole search gives. Assumes nothing.
use Prim.Native.Nat.{◌+◌}
use Rattle.join.specs.Join.{at}
use Rattle.join.proofs.Tables.{Search}
use Rattle.join.proofs.mate.Given as goal

abbrev pub invariant-loop-j : goal.invariant-loop-j
invariant-loop-j l = Search (at l.table l.i) l.table l.n (l.i + 1) l.j
