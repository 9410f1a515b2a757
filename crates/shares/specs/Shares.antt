-- Inner: what each cell adds to the sums of the strips that it lies in, where the rule counts it (nobody has to believe these).
-- The five shares of a cell are those of tally/specs/Units.antt and stand in the same places; but a bottom or top is 0 where the rule
-- spares the height of its row, and a left or right side where it spares the width of its column.
--
--   wrap a b              == two numbers together, modulo 2 ^ 16
--   counting r w h f n    == of five shares f of a cell w wide and h high, the n-th where the rule counts it
--   counted_share g r n i j
--                         == the n-th share of the cell (i, j), where the rule counts it
--   counted_of r xs ys cells i j n
--                         == the same by the lists in memory
--   owed price f          == what a cell of these five shares owes: the price of a shot where it is inside, and its sides
--   dues_of g r price      == what all cells of the grid owe
--   SharesTo g r n short  == short has the shares of all cells whose place 32 j + i is below n, and 0 from there on
--   Shares g r short      == short has the shares of all cells
use Rattle.std.specs.Prelude.{◌≡◌, ℕ, suc, ◌+◌, ◌-◌, ◌*◌, ◌%◌, ◌^◌, ◌<◌, ◌≤◌, not, List, length, slice_index}
use Rattle.sum.specs.Sum.{only, over}
use Rattle.outline.specs.Grid.{Grid}
use Rattle.rule.specs.declared.Rule.{Rule}
use Rattle.rule.specs.Charge.{spared}
use Rattle.piece.specs.Piece.{width, height}
use Rattle.tally.specs.Units.{five, share, share_of}

unfoldable pub wrap : ℕ → ℕ → ℕ
wrap a b = (a + b) % 2 ^ 16

unfoldable pub counting : Rule → ℕ → ℕ → (ℕ → ℕ) → ℕ → ℕ
counting r w h f n =
    five (f 0) (only (not (spared r h)) (f 1)) (only (not (spared r h)) (f 2)) (only (not (spared r w)) (f 3)) (only (not (spared r w)) (f 4)) n

unfoldable pub counted_share : Grid → Rule → ℕ → ℕ → ℕ → ℕ
counted_share g r n i j = counting r (width g i (suc i)) (height g j (suc j)) (λ k. share g k i j) n

unfoldable pub counted_of : Rule → List ℕ → List ℕ → List ℕ → ℕ → ℕ → ℕ → ℕ
counted_of r xs ys cells i j n =
    counting r (slice_index xs (i + 1) - slice_index xs i) (slice_index ys (j + 1) - slice_index ys j) (share_of xs ys cells i j) n

unfoldable pub owed : ℕ → (ℕ → ℕ) → ℕ
owed price f = price * f 0 + f 1 + f 2 + f 3 + f 4

unfoldable pub dues_of : Grid → Rule → ℕ → ℕ
dues_of g r price = over 0 g.rows (λ j. over 0 g.columns (λ i. owed price (λ n. counted_share g r n i j)))

pub record SharesTo (g : Grid) (r : Rule) (n : ℕ) (short : List ℕ) : Type 0 where
  pub long : length short ≡ 2560
  pub done : (k i j : ℕ) → k < 5 → i < 32 → j < g.rows → 32 * j + i < n → slice_index short (512 * k + (32 * j + i)) ≡ counted_share g r k i j
  pub none : (k m : ℕ) → k < 5 → m < 512 → n ≤ m → slice_index short (512 * k + m) ≡ 0

pub record Shares (g : Grid) (r : Rule) (short : List ℕ) : Type 0 where
  pub long : length short ≡ 2560
  pub shares : (k i j : ℕ) → k < 5 → i < 32 → j < g.rows → slice_index short (512 * k + (32 * j + i)) ≡ counted_share g r k i j
