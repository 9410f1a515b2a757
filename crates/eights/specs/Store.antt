-- Inner: the store of short costs (nobody has to believe these).
-- The strip of v columns that begins at the x line a stands in lane a of the part of its width; a part has 16 numbers for each pair of y
-- lines. A cost is short: it is counted in weights.
--
--   place_of pairs v e x  == where the store has the e-th piece of the strip v columns wide that begins at the x line x
--   listed l i           == the i-th number of a list
--   weighed t store low high l
--                        == the lesser of the l-th number of t and of the two at low + l and high + l of the store together
--   unweighed k          == what stands for no cut
--   lowered t at low high k
--                        == the lesser of the k-th number of t from the place at on, and of those from low and from high on together
--   lowered_twice t at low high next further k
--                        == the same of two cuts
--   Laid f limit pairs at t u
--                        == u is the list t, and has from the place at on, in each of so many rows of 16 numbers, f k as its first eight
--                           numbers, where k, counted through all rows, is below the limit; all but the first eight of each row is as it was
--   besides store pairs w e x v
--                        == what the two parts of the e-th piece of a strip w columns wide cost together, cut v columns from its first
--                           line x
--   stacked store rows pairs w low high x k
--                        == what the two parts of the piece between the y lines low and high cost together, cut at the line k
--   scaled weight store from e
--                        == the number for the e-th pair of y lines of the lane that begins at from, times the weight
--   Stands level         == these are the pieces between two y lines of a grid
--   Room level store     == the store has room for the strips of this width and of all narrower ones, and 16 numbers more
--   Within pairs w g t u == u is the store t but for the lanes g to g + 7 of the strips w columns wide
--   Stored columns pairs w weight store t u
--                        == u is the table t with the rows of the strips of the width w as the store has them, times the weight, and with
--                           all else as it was
use Rattle.std.specs.Prelude.{ℕ, ◌+◌, ◌*◌, ◌-◌, ◌≤◌, ◌<◌, min, ◌≡◌, ◌⊎◌, List, length, get_or}
use Rattle.table.specs.Entry.{pairs_below, pair_count, pair_no}
use Rattle.shares.specs.Shares.{wrap}
use Rattle.eights.specs.declared.cuts.Level.{Level}

unfoldable pub place_of : ℕ → ℕ → ℕ → ℕ → ℕ
place_of pairs v e x = 16 * (pairs * (v - 1) + e) + x

unfoldable pub listed : List ℕ → ℕ → ℕ
listed l i = get_or l i 0

unfoldable pub weighed : List ℕ → List ℕ → ℕ → ℕ → ℕ → ℕ
weighed t store low high l = min (get_or t l 0) (wrap (get_or store (low + l) 0) (get_or store (high + l) 0))

unfoldable pub unweighed : ℕ → ℕ
unweighed k = 65535

unfoldable pub lowered : List ℕ → ℕ → ℕ → ℕ → ℕ → ℕ
lowered t at low high k = min (get_or t (at + k) 0) (wrap (get_or t (low + k) 0) (get_or t (high + k) 0))

unfoldable pub lowered_twice : List ℕ → ℕ → ℕ → ℕ → ℕ → ℕ → ℕ → ℕ
lowered_twice t at low high next further k = min (lowered t at low high k) (wrap (get_or t (next + k) 0) (get_or t (further + k) 0))

pub record Laid (f : ℕ → ℕ) (limit pairs at : ℕ) (t u : List ℕ) : Type 0 where
  pub long : length u ≡ length t
  pub made : (e l : ℕ) → e < pairs → l < 8 → 16 * e + l < limit → get_or u (at + (16 * e + l)) 0 ≡ f (16 * e + l)
  pub kept : (k : ℕ) → ((e l : ℕ) → e < pairs → l < 8 → k ≡ at + (16 * e + l) → ⊥) → get_or u k 0 ≡ get_or t k 0

unfoldable pub besides : List ℕ → ℕ → ℕ → ℕ → ℕ → ℕ → ℕ
besides store pairs w e x v = wrap (get_or store (place_of pairs v e x) 0) (get_or store (place_of pairs (w - v) e (x + v)) 0)

unfoldable pub stacked : List ℕ → ℕ → ℕ → ℕ → ℕ → ℕ → ℕ → ℕ → ℕ
stacked store rows pairs w low high x k =
    wrap (get_or store (place_of pairs w (pair_no rows low k) x) 0) (get_or store (place_of pairs w (pair_no rows k high) x) 0)

unfoldable pub scaled : ℕ → List ℕ → ℕ → ℕ → ℕ
scaled weight store from e = weight * get_or store (from + 16 * e) 0

pub record Stands (level : Level) : Type 0 where
  pub low-high : level.low < level.high
  pub high-rows : level.high ≤ level.rows
  pub rows-most : level.rows ≤ 15
  pub pairs_are : level.pairs ≡ pair_count level.rows
  pub wide-some : 1 ≤ level.width
  pub wide-most : level.width ≤ 15
  pub first-at : level.first ≡ pairs_below level.rows level.low

abbrev pub Room : Level → List ℕ → Type 0
Room level store = 16 * (level.pairs * level.width) + 16 ≤ length store

pub record Within (pairs w g : ℕ) (t u : List ℕ) : Type 0 where
  pub long : length u ≡ length t
  pub kept : (k : ℕ) → ((e l : ℕ) → e < pairs → l < 8 → k ≡ place_of pairs w e (g + l) → ⊥) → get_or u k 0 ≡ get_or t k 0

pub record Stored (columns pairs w weight : ℕ) (store t u : List ℕ) : Type 0 where
  pub long : length u ≡ length t
  pub made : (a e : ℕ) → a + w ≤ columns → e < pairs → get_or u (pair_no columns a (a + w) * pairs + e) 0 ≡ weight * get_or store (place_of pairs w e a) 0
  pub kept : (k : ℕ) → ((a : ℕ) → a + w ≤ columns → (k < pair_no columns a (a + w) * pairs) ⊎ (pair_no columns a (a + w) * pairs + pairs ≤ k))
      → get_or u k 0 ≡ get_or t k 0
