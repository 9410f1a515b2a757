-- `outline::cells::turn_over` meets its contract. The invariant: of the cells right of the line those passed are turned over, all others are as they were. Assumes nothing.
use Prim.Native.Nat.{◌-◌}
use Rattle.outline.proofs.Turning.{Turning}
use Rattle.outline.proofs.cells.turn_over.Given as goal

abbrev pub invariant-loop-j : goal.invariant-loop-j
invariant-loop-j l = Turning l.initial.cells l.ys l.first l.low.0 l.high.0 l.cells l.j

abbrev pub decreases-loop-j : goal.decreases-loop-j
decreases-loop-j l = l.rows - l.j
