-- `count::flat::spared_of_one` meets its contract: the columns passed. Assumes nothing.
use mathlib.Core.Path.{◌≡◌}
use Rattle.count.specs.Corners.{reach_at}
use Rattle.count.proofs.Climbing.{Passing}
use Rattle.count.proofs.flat.spared_of_one.Given as goal

abbrev pub invariant-loop-column : goal.invariant-loop-column
invariant-loop-column l = Passing l.cells l.columns 1 l.column l.sum × (l.low ≡ reach_at l.cells l.columns l.column 0)
