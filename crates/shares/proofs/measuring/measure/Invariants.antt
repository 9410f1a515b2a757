-- `shares::measuring::measure` meets its contract: the rows below j are measured. Assumes nothing.
use Rattle.std.proofs.Common.{◌≡◌, ◌*◌, ◌≤◌}
use Rattle.sum.specs.Sum.{over}
use Rattle.outline.specs.Grid.{stored}
use Rattle.shares.specs.Shares.{counted_of, owed, SharesTo}
use Rattle.shares.proofs.measuring.measure.Given as goal

abbrev pub invariant-loop-j : goal.invariant-loop-j
invariant-loop-j now = (SharesTo (stored now.columns now.rows now.xs now.ys now.cells) now.rule (32 * now.j) now.short
    × ((now.due ≡ over 0 now.j (λ l. over 0 now.columns (λ i. owed now.price (counted_of now.rule now.xs now.ys now.cells i l)))) × (now.due ≤ 7757100 * now.j)))
