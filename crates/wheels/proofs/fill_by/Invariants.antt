-- `wheels::fill_by` meets its contract: all strips narrower than w are filled, and in the pinwheel mode kept. Assumes nothing.
use Rattle.std.proofs.Common.{◌≡◌, ◌+◌, ◌-◌, ◌≤◌, length}
use Rattle.outline.specs.Grid.{stored}
use Rattle.piece.specs.declared.Mode.TheVariants.{Pinwheel}
use Rattle.piece.specs.Cuts.{cost}
use Rattle.tally.specs.Sums.{Grown}
use Rattle.widths.proofs.Fill.{State}
use Rattle.wheels.proofs.Costs.{Kept}
use Rattle.wheels.proofs.fill_by.Given as goal

abbrev pub invariant-loop-w : goal.invariant-loop-w
invariant-loop-w l = (1 ≤ l.w) × ((l.w ≤ l.columns + 1) × ((length l.wide ≡ 16) × (Grown (stored l.columns l.rows l.xs l.ys l.cells) (l.w - 1) l.sums × (State l.mode (stored l.columns l.rows l.xs l.ys l.cells) l.rule l.w l.initial.table l.table l.side × ((l.mode ≡ Pinwheel → Kept (cost Pinwheel (stored l.columns l.rows l.xs l.ys l.cells) l.rule) l.columns l.rows l.pairs l.w l.store) × (length l.store ≡ length l.initial.store))))))
