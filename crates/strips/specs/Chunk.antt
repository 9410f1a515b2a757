-- Inner: some pieces of one strip, in its lane of a side store (nobody has to believe these).
--
--   Weighable columns pairs w a first t
--                                   == the strip of the width w that begins at the x line a lies within so many columns, the table t
--                                      has all rows, the costs of the parts of each vertical cut of the strip can be added, and
--                                      `first` is the number of the first pair whose low line is a
--   Least columns pairs w a from n t best made
--                                   == made has, for n pieces of that strip, from the piece `from` on, the least of what best has and of
--                                      each piece's vertical cuts by the table t
--   lane_of side a e                 == what the side store has for the e-th piece of the strip that begins at the x line a
--   listed l i                      == the i-th number of a list
--   Laid f a from n side made       == made is the side store with f i for the piece from + i of the strip that begins at a, for each
--                                      i < n, and with all else as it was
--   Chunk columns pairs w a from n t side made
--                                   == made is the side store with, for n pieces of the strip between the x lines a and a + w, from the
--                                      piece `from` on, the least of each piece's vertical cuts by the table t (`uncut` where it has
--                                      none), and with all else as it was
use Rattle.std.specs.Prelude.{ℕ, ◌+◌, ◌*◌, ◌≤◌, ◌<◌, ◌^◌, ◌≡◌, ◌⊎◌, List, length, get_or}
use Rattle.table.specs.Entry.{pairs_below, pair_count}
use Rattle.table.specs.Run.{Lowest}
use Rattle.table.specs.Cuts.{uncut}
use Rattle.table.specs.Cuts.{parted}

pub record Weighable (columns pairs w a first : ℕ) (t : List ℕ) : Type 0 where
  pub columns-most : columns ≤ 15
  pub pairs-most : pairs ≤ 120
  pub room : pair_count columns * pairs ≤ length t
  pub wide : 1 ≤ w
  pub within : a + w ≤ columns
  pub first-at : first ≡ pairs_below columns a
  pub fit : (j e : ℕ) → a < j → j < a + w → e < pairs → parted t columns pairs a (a + w) e j < 2 ^ 32

pub record Least (columns pairs w a from n : ℕ) (t best made : List ℕ) : Type 0 where
  pub long : length made ≡ length best
  pub least : (i : ℕ) → i < n → Lowest (parted t columns pairs a (a + w) (from + i)) a (a + w) (get_or best i 0) (get_or made i 0)

unfoldable pub lane_of : List ℕ → ℕ → ℕ → ℕ
lane_of side a e = get_or side (16 * e + a) 0

unfoldable pub listed : List ℕ → ℕ → ℕ
listed l i = get_or l i 0

pub record Laid (f : ℕ → ℕ) (a from n : ℕ) (side made : List ℕ) : Type 0 where
  pub long : length made ≡ length side
  pub made_at : (i : ℕ) → i < n → get_or made (16 * (from + i) + a) 0 ≡ f i
  pub kept : (b e : ℕ) → b < 16 → (b ≡ a → ⊥) ⊎ ((e < from) ⊎ (from + n ≤ e)) → get_or made (16 * e + b) 0 ≡ get_or side (16 * e + b) 0

pub record Chunk (columns pairs w a from n : ℕ) (t side made : List ℕ) : Type 0 where
  pub long : length made ≡ length side
  pub least : (e : ℕ) → from ≤ e → e < from + n → Lowest (parted t columns pairs a (a + w) e) a (a + w) uncut (get_or made (16 * e + a) 0)
  pub kept : (b e : ℕ) → b < 16 → (b ≡ a → ⊥) ⊎ ((e < from) ⊎ (from + n ≤ e)) → get_or made (16 * e + b) 0 ≡ get_or side (16 * e + b) 0
