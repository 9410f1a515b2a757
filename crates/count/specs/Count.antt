-- Inner: the cells that are counted, as they lie in memory (nobody has to believe these).
--
--   Shaded g cells columns rows     == the cells of the grid g, of so many columns and rows, lie in memory so: 1 for an inside cell, column
--                                      after column
--   Countable cells columns rows    == there is such a grid
use Rattle.std.specs.Prelude.{ℕ, ◌+◌, ◌*◌, ◌≤◌, ◌<◌, ◌≡◌, List, length, get_or}
use Rattle.sum.specs.Sum.{only}
use Rattle.outline.specs.Grid.{Grid}

pub record Shaded (g : Grid) (cells : List ℕ) (columns rows : ℕ) : Type 0 where
  pub across : columns ≡ g.columns
  pub upright : rows ≡ g.rows
  pub columns-some : 1 ≤ columns
  pub columns-most : columns ≤ 15
  pub rows-some : 1 ≤ rows
  pub rows-most : rows ≤ 15
  pub cells-length : length cells ≡ 256
  pub cell-at : (i j : ℕ) → i < 16 → j < 16 → get_or cells (16 * i + j) 0 ≡ only (g.inside i j) 1

pub record Countable (cells : List ℕ) (columns rows : ℕ) : Type 0 where
  pub grid : Grid
  pub shaded : Shaded grid cells columns rows
