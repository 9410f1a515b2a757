-- Inner: the strips of one width grow by a column (nobody has to believe these).
-- The sums stand as specs/Sums.antt says, the shares of the cells as specs/Units.antt says: of a strip in lane a that grows to the
-- columns a to a + last, the last column adds its shares, and its flanks are the left sides of column a and the right sides of column
-- a + last.
--
--   added t unit at from l    == the number at at + l of t, and the share at from + l
--   flank_sum unit left right l
--                             == the shares at left + l and right + l together
--   Slight unit               == the shares are small enough to be added to anything here
--   RowFits unit last j t     == the numbers of the row j are small enough to be added
--   RowGrown unit last j t u  == u is the sums t with the row j of all strips grown
--   RowsGrown unit last n t u == u is the sums t with the rows below n grown
--   Growable rows w unit sums == the same of all rows, for strips that grow to the width w
--   Ripe g rows w unit sums   == the sums are those of the strips of g that are a column narrower than w, and these shares are its cells'
use Rattle.std.specs.Prelude.{ℕ, ◌+◌, ◌*◌, ◌-◌, ◌≤◌, ◌<◌, ◌≡◌, List, length, get_or}
use Rattle.outline.specs.Grid.{Grid, Sound}
use Rattle.tally.specs.Sums.{Grown}
use Rattle.tally.specs.Units.{Units}

unfoldable pub added : List ℕ → List ℕ → ℕ → ℕ → ℕ → ℕ
added t unit at from l = get_or t (at + l) 0 + get_or unit (from + l) 0

unfoldable pub flank_sum : List ℕ → ℕ → ℕ → ℕ → ℕ
flank_sum unit left right l = get_or unit (left + l) 0 + get_or unit (right + l) 0

pub record Slight (unit : List ℕ) : Type 0 where
  pub long : length unit ≡ 2560
  pub most : (k : ℕ) → k < 2560 → get_or unit k 0 ≤ 65535

pub record RowFits (unit : List ℕ) (last j : ℕ) (t : List ℕ) : Type 0 where
  pub slight : Slight unit
  pub sums-long : length t ≡ 1024
  pub row-most : j < 15
  pub last-most : last ≤ 15
  pub sum_most : (r l : ℕ) → r < 3 → l < 16 → get_or t (256 * r + (16 * j + l)) 0 ≤ 65535

pub record RowGrown (unit : List ℕ) (last j : ℕ) (t u : List ℕ) : Type 0 where
  pub long : length u ≡ length t
  pub grown : (r l : ℕ) → r < 3 → l < 16
      → get_or u (256 * r + (16 * j + l)) 0 ≡ get_or t (256 * r + (16 * j + l)) 0 + get_or unit (512 * r + (32 * j + (l + last))) 0
  pub flanked : (l : ℕ) → l < 16 → get_or u (768 + (16 * j + l)) 0 ≡ get_or unit (1536 + (32 * j + l)) 0 + get_or unit (2048 + (32 * j + (l + last))) 0
  pub kept : (r i l : ℕ) → i < 16 → l < 16 → (i ≡ j → ⊥) → get_or u (256 * r + (16 * i + l)) 0 ≡ get_or t (256 * r + (16 * i + l)) 0

pub record RowsGrown (unit : List ℕ) (last n : ℕ) (t u : List ℕ) : Type 0 where
  pub long : length u ≡ length t
  pub grown : (r j l : ℕ) → r < 3 → j < n → l < 16
      → get_or u (256 * r + (16 * j + l)) 0 ≡ get_or t (256 * r + (16 * j + l)) 0 + get_or unit (512 * r + (32 * j + (l + last))) 0
  pub flanked : (j l : ℕ) → j < n → l < 16
      → get_or u (768 + (16 * j + l)) 0 ≡ get_or unit (1536 + (32 * j + l)) 0 + get_or unit (2048 + (32 * j + (l + last))) 0
  pub kept : (r j l : ℕ) → n ≤ j → j < 16 → l < 16 → get_or u (256 * r + (16 * j + l)) 0 ≡ get_or t (256 * r + (16 * j + l)) 0

pub record Growable (rows w : ℕ) (unit sums : List ℕ) : Type 0 where
  pub slight : Slight unit
  pub sums-long : length sums ≡ 1024
  pub rows-most : rows ≤ 15
  pub wide-some : 1 ≤ w
  pub wide-most : w ≤ 15
  pub sum_most : (r j l : ℕ) → r < 3 → j < rows → l < 16 → get_or sums (256 * r + (16 * j + l)) 0 ≤ 65535

pub record Ripe (g : Grid) (rows w : ℕ) (unit sums : List ℕ) : Type 0 where
  pub sound : Sound g
  pub rows_are : g.rows ≡ rows
  pub wide-some : 1 ≤ w
  pub wide-most : w ≤ g.columns
  pub units : Units g unit
  pub grown : Grown g (w - 1) sums
