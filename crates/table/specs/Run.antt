-- Inner: runs of numbers in a list, and the least of several (nobody has to believe these).
-- The steps of the fill say by them what becomes of the numbers that they go over.
--
--   Wrote f at n t u     == u is the list t with f i at the place at + i for each i < n, and as t everywhere else
--   bare near far len    == the exposed length of a stretch of len nm: len where the cell within (near) is inside and the cell
--                           across (far) is not, else 0; a cell is 1 where it is inside, else 0
--   weighed_apart t side low high i
--                        == what the i-th of several pieces costs at most, with the cut weighed whose parts are at low + i and high + i
--                           of another list, side
--   Lowest f a c m r     == r is the least of m and of f at the lines strictly between a and c
use Rattle.std.specs.Prelude.{ℕ, ◌+◌, ◌≤◌, ◌<◌, min, ◌≡◌, not, ◌&&◌, ◌⊎◌, List, eqb, length, get_or}
use Rattle.sum.specs.Sum.{only}

pub record Wrote (f : ℕ → ℕ) (at n : ℕ) (t u : List ℕ) : Type 0 where
  pub long : length u ≡ length t
  pub made : (i : ℕ) → i < n → get_or u (at + i) 0 ≡ f i
  pub kept : (k : ℕ) → (k < at) ⊎ (at + n ≤ k) → get_or u k 0 ≡ get_or t k 0

unfoldable pub bare : ℕ → ℕ → ℕ → ℕ
bare near far len = only (not (eqb near 0) && eqb far 0) len

unfoldable pub weighed_apart : List ℕ → List ℕ → ℕ → ℕ → ℕ → ℕ
weighed_apart t side low high i = min (get_or t i 0) (get_or side (low + i) 0 + get_or side (high + i) 0)

pub record Lowest (f : ℕ → ℕ) (a c m r : ℕ) : Type 0 where
  pub first : r ≤ m
  pub each : (j : ℕ) → a < j → j < c → r ≤ f j
  pub one : (r ≡ m) ⊎ ((j : ℕ) × (a < j) × (j < c) × (r ≡ f j))
