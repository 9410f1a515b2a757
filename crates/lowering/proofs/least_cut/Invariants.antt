-- `lowering::least_cut` meets its contract. The loop's invariant: the two entries are those of the parts at j, and what is kept is the least of
-- the lines passed. Assumes nothing.
use Rattle.table.specs.Run.{Lowest}
use Rattle.verdict.specs.Search.{across}
use Rattle.verdict.proofs.Across.{At}
use Rattle.lowering.proofs.least_cut.Given as goal

abbrev pub invariant-loop-j : goal.invariant-loop-j
invariant-loop-j l = At l.fn.cuts l.j l.lower l.upper × Lowest (across l.table l.fn.cuts) l.fn.cuts.low.0 l.j l.start l.least
