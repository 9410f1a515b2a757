-- `lowest` meets its contract: the lowest so far, and the points still to come. Assumes nothing.
use mathlib.Core.Path.{◌≡◌}
use Prim.Native.Nat.{◌+◌, ◌*◌, ◌-◌}
use Rattle.gdsii.specs.Boundary.{lowest_from, lowest, points_from, points}
use Rattle.gdsii.proofs.places.lowest.Given as goal

abbrev pub invariant-loop-i : goal.invariant-loop-i
invariant-loop-i l = lowest_from l.axis l.low (points_from l.element (l.run.first + 8 * l.i) (l.run.count - l.i)) ≡ lowest l.axis (points l.element l.run)
