-- `join::fill` meets its contract. The invariant: the shots before the i-th lie in front. Assumes nothing.
use mathlib.Core.Path.{◌≡◌}
use Rattle.join.specs.Steps.{filled}
use Rattle.join.proofs.fill.Given as goal

abbrev pub invariant-loop-i : goal.invariant-loop-i
invariant-loop-i l = l.table ≡ filled l.list l.initial.table l.i
