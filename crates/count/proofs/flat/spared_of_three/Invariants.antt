-- `count::flat::spared_of_three` meets its contract: the columns passed. Assumes nothing.
use mathlib.Core.Path.{◌≡◌}
use Rattle.count.specs.Corners.{reach_at}
use Rattle.count.proofs.Climbing.{Passing}
use Rattle.count.proofs.flat.spared_of_three.Given as goal

abbrev pub invariant-loop-column : goal.invariant-loop-column
invariant-loop-column l = Passing l.cells l.columns 3 l.column l.sum × (l.low ≡ reach_at l.cells l.columns l.column 0) × (l.middle ≡ reach_at l.cells l.columns l.column 1) × (l.high ≡ reach_at l.cells l.columns l.column 2)
