-- `outline::cells::sweep` meets its contract. The invariant: the columns before column i are swept. Assumes nothing.
use Prim.Native.Nat.{◌-◌, ◌≤◌}
use mathlib.Core.Path.{◌≡◌}
use lib.ListN.{length}
use Rattle.outline.specs.Steps.{Swept}
use Rattle.outline.proofs.cells.sweep.Given as goal

abbrev pub invariant-loop-i : goal.invariant-loop-i
invariant-loop-i l = (l.i ≤ l.lines) × (1 ≤ l.i) × (length l.cells ≡ length l.initial.cells) × Swept l.i l.initial.cells l.cells

abbrev pub decreases-loop-i : goal.decreases-loop-i
decreases-loop-i l = l.lines - l.i
