-- Inner: the lines within pieces of one sort, by the cell at their low corner (nobody has to believe these).
--
--   cell_at cells i j, number_at l j   == the cell in the column i and the row j; a number of a list
--   farther, widened     == how many cells of a row are of one sort from a column on, given how many are from the next one on
--   stretch f a n        == of the n numbers f a, f (a + 1), .. how many are alike, from the first on
--   Widenable, Climbable == what the loops over a column are lent
--   share m e            == twice the lines within m pieces of 1, 2, .. m columns and e + 1 rows
--   climb f r s j e m k  == the shares of k rows from the row j on, which is e rows above the corner, until one has another sort than s;
--                           the pieces below it have at most m columns
--   corner f r rows b    == those of all rows from b on
--   reach_at cells columns a j == how many cells of the row j are of one sort, from the column a on
--   spared, spared_all    == those of all rows of a column; of all columns
use Rattle.std.specs.Prelude.{ℕ, zero, suc, ◌+◌, ◌*◌, ◌-◌, ◌≤◌, ◌<◌, min, ◌≡◌, cond, List, eqb, length, get_or}
use Rattle.sum.specs.Sum.{over}

unfoldable pub cell_at : List ℕ → ℕ → ℕ → ℕ
cell_at cells i j = get_or cells (16 * i + j) 0

unfoldable pub number_at : List ℕ → ℕ → ℕ
number_at l j = get_or l j 0

unfoldable pub farther : ℕ → ℕ → ℕ → ℕ
farther cell next further = cond (eqb cell next) (suc further) 1

unfoldable pub widened : List ℕ → ℕ → List ℕ → ℕ → ℕ
widened cells column reaches j = farther (cell_at cells column j) (cell_at cells (suc column) j) (number_at reaches j)

unfoldable pub stretch : (ℕ → ℕ) → ℕ → ℕ → ℕ
stretch f a zero = 0
stretch f a (suc n) = farther (f a) (f (suc a)) (stretch f (suc a) n)

pub record Widenable (cells : List ℕ) (column rows : ℕ) (reaches : List ℕ) : Type 0 where
  pub cells-length : length cells ≡ 256
  pub column-most : column < 15
  pub rows-most : rows ≤ 15
  pub reaches_length : length reaches ≡ 16
  pub few : (j : ℕ) → j < rows → number_at reaches j ≤ 15

pub record Climbable (cells : List ℕ) (column rows : ℕ) (reaches : List ℕ) : Type 0 where
  pub cells-length : length cells ≡ 256
  pub column-most : column < 15
  pub rows-most : rows ≤ 15
  pub reaches_length : length reaches ≡ 16
  pub few : (j : ℕ) → j < rows → number_at reaches j ≤ 15
  pub some : (j : ℕ) → j < rows → 1 ≤ number_at reaches j

unfoldable pub share : ℕ → ℕ → ℕ
share m e = m * (m + 2 * e - 1)

unfoldable pub climb : (ℕ → ℕ) → (ℕ → ℕ) → ℕ → ℕ → ℕ → ℕ → ℕ → ℕ
climb f r s j e m zero = 0
climb f r s j e m (suc k) = cond (eqb (f j) s) (share (min m (r j)) e + climb f r s (suc j) (suc e) (min m (r j)) k) 0

unfoldable pub corner : (ℕ → ℕ) → (ℕ → ℕ) → ℕ → ℕ → ℕ
corner f r rows b = climb f r (f b) b 0 (r b) (rows - b)

unfoldable pub reach_at : List ℕ → ℕ → ℕ → ℕ → ℕ
reach_at cells columns a j = stretch (λ i. cell_at cells i j) a (columns - a)

unfoldable pub spared : List ℕ → ℕ → ℕ → ℕ → ℕ
spared cells columns rows a = over 0 rows (corner (cell_at cells a) (reach_at cells columns a) rows)

unfoldable pub spared_all : List ℕ → ℕ → ℕ → ℕ
spared_all cells columns rows = over 0 columns (spared cells columns rows)
