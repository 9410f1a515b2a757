-- `outline::cells::mark_walls` meets its contract. The invariant: the rings passed are marked. Assumes nothing.
use mathlib.Core.Path.{◌≡◌}
use lib.ListN.{length}
use Rattle.outline.proofs.Marking.{Rings}
use Rattle.outline.proofs.cells.mark_walls.Given as goal

abbrev pub invariant-loop-length : goal.invariant-loop-length
invariant-loop-length l = (length l.cells ≡ length l.initial.cells) × Rings l.corners l.lengths l.xs l.ys l.initial.cells l.cells l.from l.length-index
