-- `outline::cells::sweep_column` meets its contract. The invariant: the cells passed have taken in those left of them. Assumes nothing.
use Prim.Native.Nat.{◌-◌}
use Rattle.outline.proofs.Sweeping.{Sweeping}
use Rattle.outline.proofs.cells.sweep_column.Given as goal

abbrev pub invariant-loop-j : goal.invariant-loop-j
invariant-loop-j l = Sweeping l.initial.cells l.first l.cells l.j

abbrev pub decreases-loop-j : goal.decreases-loop-j
decreases-loop-j l = 16 - l.j
