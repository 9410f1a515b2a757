-- `outline::cells::mark_from` meets its contract. The invariant: the walls passed are marked, and the next edge is one. Assumes nothing.
use Prim.Native.Nat.{◌-◌}
use mathlib.Core.Path.{◌≡◌}
use lib.ListN.{length}
use Rattle.outline.proofs.Marking.{Edges}
use Rattle.outline.proofs.cells.mark_from.Given as goal

abbrev pub invariant-loop-edge : goal.invariant-loop-edge
invariant-loop-edge l = (length l.cells ≡ length l.initial.cells) × Edges l.corners l.xs l.ys l.initial.cells l.first l.cells l.edge

abbrev pub decreases-loop-edge : goal.decreases-loop-edge
decreases-loop-edge l = l.count - l.edge
