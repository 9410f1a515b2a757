-- `edge::ending::shot_with` meets its contract. The invariant: no shot passed so far has the side there. Assumes nothing.
use Rattle.std.specs.Prelude.{Some}
use Prim.Native.Nat.{ℕ, ◌<◌}
use mathlib.Core.Path.{◌≡◌}
use mathlib.Core.Bool.{false}
use Rattle.edge.specs.Steps.{side_no, low_of}
use Rattle.edge.proofs.Laws.{has}
use Rattle.edge.proofs.ending.shot_with.Given as goal

abbrev pub invariant-loop-i : goal.invariant-loop-i
invariant-loop-i l = (k : ℕ) → k < l.i → has l.shots l.s.axis l.s.at l.s.k (side_no (low_of l.s.axis) (Some l.side)) k ≡ false
