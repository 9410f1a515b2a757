-- `highest` meets its contract: the highest so far, and the points still to come. Assumes nothing.
use mathlib.Core.Path.{◌≡◌}
use Prim.Native.Nat.{◌+◌, ◌*◌, ◌-◌}
use Rattle.gdsii.specs.Boundary.{highest_from, highest, points_from, points}
use Rattle.gdsii.proofs.places.highest.Given as goal

abbrev pub invariant-loop-i : goal.invariant-loop-i
invariant-loop-i l = highest_from l.axis l.high (points_from l.element (l.run.first + 8 * l.i) (l.run.count - l.i)) ≡ highest l.axis (points l.element l.run)
