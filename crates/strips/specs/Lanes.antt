-- Inner: the strips of one width, side by side (nobody has to believe these).
-- A side store has, at 16 e + a, a number for the e-th piece, among the pairs of y lines, of the strip that begins at the x line a.
--
--   Weighed columns pairs w t side made == made is the side store with, for each strip of the width w, the least of each piece's
--                                          vertical cuts by the table t (`uncut` where it has none), and with all else as it was
--   Stored columns pairs w side t u     == u is the table t with the rows of these strips as the side store has them, and with all
--                                          else as it was
use Rattle.std.specs.Prelude.{ℕ, ◌+◌, ◌*◌, ◌≤◌, ◌<◌, ◌≡◌, ◌⊎◌, List, length, get_or}
use Rattle.table.specs.Entry.{pair_no}
use Rattle.table.specs.Run.{Lowest}
use Rattle.table.specs.Cuts.{uncut}
use Rattle.table.specs.Cuts.{parted}

pub record Weighed (columns pairs w : ℕ) (t side made : List ℕ) : Type 0 where
  pub long : length made ≡ length side
  pub least : (a e : ℕ) → a + w ≤ columns → e < pairs → Lowest (parted t columns pairs a (a + w) e) a (a + w) uncut (get_or made (16 * e + a) 0)
  pub kept : (a e : ℕ) → a < 16 → (columns < a + w) ⊎ (pairs ≤ e) → get_or made (16 * e + a) 0 ≡ get_or side (16 * e + a) 0

pub record Stored (columns pairs w : ℕ) (side t u : List ℕ) : Type 0 where
  pub long : length u ≡ length t
  pub made : (a e : ℕ) → a + w ≤ columns → e < pairs → get_or u (pair_no columns a (a + w) * pairs + e) 0 ≡ get_or side (16 * e + a) 0
  pub kept : (k : ℕ) → ((a : ℕ) → a + w ≤ columns → (k < pair_no columns a (a + w) * pairs) ⊎ (pair_no columns a (a + w) * pairs + pairs ≤ k))
      → get_or u k 0 ≡ get_or t k 0
