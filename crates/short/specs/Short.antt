-- Inner: the fill in short numbers (nobody has to believe these).
-- Where the weight divides 1,000, every cost is a multiple of the weight: a shot costs `price` weights, price times the weight being 1,000,
-- and each nm of its sliver one more.
--
--   Fillable g r price xs ys cells short table
--                     == the grid g is ready to be filled, short has the shares of its cells, and all that they owe fits 16 bits
--   Filled g r t u    == the table u is t with the cost of every piece of the grid g at its front
--   FilledOr done g r t u
--                     == so it is where it is done; else it is as it was
use Rattle.std.specs.Prelude.{ℕ, ◌*◌, ◌≤◌, ◌≡◌, Bool, true, false, List, ◌++◌, length, drop}
use Rattle.outline.specs.Grid.{Grid}
use Rattle.rule.specs.declared.Rule.{Rule}
use Rattle.piece.specs.declared.Mode.TheVariants.{Straight}
use Rattle.table.specs.Entry.{costs}
use Rattle.table.specs.Fill.{Ready}
use Rattle.shares.specs.Shares.{dues_of, Shares}

pub record Fillable (g : Grid) (r : Rule) (price : ℕ) (xs ys cells short table : List ℕ) : Type 0 where
  pub ready : Ready g r xs ys cells table
  pub shares : Shares g r short
  pub threshold-most : r.threshold ≤ 65535
  pub price-most : price ≤ 1000
  pub whole : price * r.weight ≡ 1000
  pub due_most : dues_of g r price ≤ 64535

abbrev pub Filled : Grid → Rule → List ℕ → List ℕ → Type 0
Filled g r t u = u ≡ costs Straight g r ++ drop (length (costs Straight g r)) t

abbrev pub FilledOr : Bool → Grid → Rule → List ℕ → List ℕ → Type 0
FilledOr true g r t u = Filled g r t u
FilledOr false g r t u = u ≡ t
