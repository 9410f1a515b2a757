-- What a fill in short numbers leaves in the table. Assumes nothing.
--
--   filled-short == where it is done, the table is filled
--   filled-long  == where it is not, the table is as it was, so that the fill in long numbers fills it
use mathlib.Core.Path.{◌≡◌, sym, ◌∙◌, ap}
use mathlib.Core.Bool.{Bool, true, false, true≢false}
use mathlib.Core.List.{List, ◌++◌}
use Prim.Native.Nat.{ℕ}
use lib.ListN.{length, drop}
use Rattle.outline.specs.Grid.{Grid}
use Rattle.rule.specs.declared.Rule.{Rule}
use Rattle.piece.specs.declared.Mode.TheVariants.{Straight}
use Rattle.table.specs.Entry.{costs}
use Rattle.short.specs.Short.{Filled, FilledOr}

module _ (g : Grid) (r : Rule) (t u : List ℕ) where
  pub filled-short : (done : Bool) → done ≡ true → FilledOr done g r t u → Filled g r t u
  filled-short true e f = f
  filled-short false e f = absurd (true≢false (sym e))

  pub filled-long : (v : List ℕ) (done : Bool) → done ≡ false → FilledOr done g r t u → Filled g r u v → Filled g r t v
  filled-long v true e f h = absurd (true≢false e)
  filled-long v false e f h = h ∙ ap (λ x. costs Straight g r ++ drop (length (costs Straight g r)) x) f
