-- `shallow::fill` meets its contract: the strips that begin at the line a or above are filled. Assumes nothing.
use Prim.Native.Nat.{◌+◌, ◌≤◌}
use mathlib.Core.Path.{◌≡◌}
use Rattle.outline.specs.Grid.{stored}
use Rattle.piece.specs.declared.Mode.TheVariants.{Straight}
use Rattle.table.specs.Entry.{pairs_below, entry_count}
use Rattle.table.specs.Fill.{Reached, Beyond}
use Rattle.shallow.proofs.fill.Given as goal

abbrev pub invariant-loop-a : goal.invariant-loop-a
invariant-loop-a l = (l.a ≤ l.columns)
    × ((l.first ≡ pairs_below l.columns l.a)
    × (Reached Straight (stored l.columns l.rows l.xs l.ys l.cells) l.rule l.table l.a (l.columns + 1) × Beyond (entry_count l.columns l.rows) l.initial.table l.table))
