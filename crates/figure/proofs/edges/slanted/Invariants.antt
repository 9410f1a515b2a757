-- `figure::edges::slanted` meets its contract. The invariant: no edge passed so far changes both coordinates. Assumes nothing.
use Prim.Native.Nat.{ℕ, ◌<◌, ◌-◌}
use mathlib.Core.Path.{◌≡◌}
use mathlib.Core.Bool.{false}
use Rattle.figure.specs.Corners.{both}
use Rattle.figure.specs.Steps.{edge}
use Rattle.figure.proofs.edges.slanted.Given as goal

abbrev pub invariant-loop-end : goal.invariant-loop-end
invariant-loop-end l = (k : ℕ) → k < l.end → both (edge l.corners k) ≡ false

abbrev pub decreases-loop-end : goal.decreases-loop-end
decreases-loop-end l = l.count - l.end
