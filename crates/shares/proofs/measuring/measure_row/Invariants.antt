-- `shares::measuring::measure_row` meets its contract: the cells of the row before the i-th are measured. Assumes nothing.
use Rattle.std.proofs.Common.{◌≡◌, ◌+◌, ◌*◌, ◌≤◌, length}
use Rattle.sum.specs.Sum.{over}
use Rattle.outline.specs.Grid.{Grid}
use Rattle.tally.specs.Units.{Row}
use Rattle.shares.specs.Shares.{counted_of, owed, SharesTo}
use Rattle.shares.proofs.measuring.measure_row.Given as goal

abbrev pub invariant-loop-i : goal.invariant-loop-i
invariant-loop-i l = ((length l.short ≡ 2560)
    × (((g : Grid) → Row g l.columns l.j l.xs l.ys l.cells → SharesTo g l.rule (32 * l.j) l.initial.short → SharesTo g l.rule (32 * l.j + l.i) l.short)
    × ((l.due ≡ over 0 l.i (λ k. owed l.price (counted_of l.rule l.xs l.ys l.cells k l.j))) × (l.due ≤ 517140 * l.i))))
