-- `count::corners::corner` meets its contract: the shares of the rows passed. Assumes nothing.
use Rattle.count.specs.Corners.{cell_at, number_at}
use Rattle.count.proofs.Climbing.{Climbing}
use Rattle.count.proofs.corners.corner.Given as goal

abbrev pub invariant-loop-j : goal.invariant-loop-j
invariant-loop-j l = Climbing (cell_at l.cells l.column) (number_at l.reaches) l.rows l.b l.sort l.j l.lines l.narrow l.sum
