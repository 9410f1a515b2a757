-- `count::corners::spared` meets its contract: the columns from the last one back. Assumes nothing.
use Rattle.count.proofs.Climbing.{Widening}
use Rattle.count.proofs.corners.spared.Given as goal

abbrev pub invariant-loop-column : goal.invariant-loop-column
invariant-loop-column l = Widening l.cells l.columns l.rows l.column l.reaches l.sum
