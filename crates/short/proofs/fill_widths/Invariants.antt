-- `short::fill_widths` meets its contract: all strips narrower than w are filled, and kept in weights. Assumes nothing.
use Prim.Native.Nat.{ℕ}
use mathlib.Core.Path.{◌≡◌}
use mathlib.Core.List.{List}
use lib.ListN.{length}
use Rattle.outline.specs.Grid.{stored}
use Rattle.short.specs.Short.{Fillable}
use Rattle.short.proofs.Filling.{Going}
use Rattle.short.proofs.fill_widths.Given as goal

abbrev pub invariant-loop-w : goal.invariant-loop-w
invariant-loop-w l = (length l.wide ≡ 16) × (((cells : List ℕ) → Fillable (stored l.columns l.rows l.xs l.ys cells) l.rule l.price l.xs l.ys cells l.short l.initial.table → Going (stored l.columns l.rows l.xs l.ys cells) l.rule l.price l.w l.sums l.store l.initial.table l.table) × (length l.store ≡ length l.initial.store))
