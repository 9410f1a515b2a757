-- `count::corners::corners_at` meets its contract: the corners of the rows passed. Assumes nothing.
use Rattle.count.specs.Corners.{cell_at, number_at, corner}
use Rattle.count.proofs.Summing.{Summed}
use Rattle.count.proofs.corners.corners_at.Given as goal

abbrev pub invariant-loop-b : goal.invariant-loop-b
invariant-loop-b l = Summed (corner (cell_at l.cells l.column) (number_at l.reaches) l.rows) 9900 l.rows l.b l.sum
