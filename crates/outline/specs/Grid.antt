-- To believe: the grid of a figure, which is all that the floors above see of it, and how it lies in memory.
--
--   most_lines            == no figure has more lines each way
--   most_cells            == the cells between so many lines, with a column and a row beyond them
--   Grid                 == the count of columns and rows of cells, the place in nm of each x line and y line, and the cells that
--                           are inside. The cell (i, j) lies between the x lines i and i + 1 and the y lines j and j + 1
--   Sound g              == 1 to 15 columns and rows; places rise from line to line within the frame, and never fall beyond it;
--                           they are 16-bit numbers; no cell beyond the frame is inside
--   Drawn g xs ys cells  == how a grid lies in memory: the places of the lines in 16 numbers each, and 16 x 16 bytes, 1 for an
--                           inside cell, 0 beyond the frame, column after column
--   Memory               == a grid in memory: its columns and rows, and the three lists
--   memory columns rows xs ys cells
--                        == the grid in memory that is made of these
--   stored columns rows xs ys cells
--                        == the grid that lies in memory so
use Rattle.std.specs.Prelude.{ℕ, suc, ◌+◌, ◌*◌, ◌≤◌, ◌<◌, min, ◌≡◌, Bool, false, ◌&&◌, List, ltb, eqb, length, get_or}
use Rattle.sum.specs.Sum.{only}
use Rattle.figure.specs.Figure.{most_place}

abbrev pub most_lines : ℕ
most_lines = 16

abbrev pub most_cells : ℕ
most_cells = 256

pub record Grid : Type 0 where
  pub columns : ℕ
  pub rows : ℕ
  pub x : ℕ → ℕ
  pub y : ℕ → ℕ
  pub inside : ℕ → ℕ → Bool

pub record Sound (g : Grid) : Type 0 where
  pub columns-some : 1 ≤ g.columns
  pub columns-most : g.columns ≤ 15
  pub rows-some : 1 ≤ g.rows
  pub rows-most : g.rows ≤ 15
  pub x-up : (i : ℕ) → g.x i ≤ g.x (suc i)
  pub y-up : (j : ℕ) → g.y j ≤ g.y (suc j)
  pub x_rises : (i : ℕ) → i < g.columns → g.x i < g.x (suc i)
  pub y_rises : (j : ℕ) → j < g.rows → g.y j < g.y (suc j)
  pub x-most : (i : ℕ) → g.x i ≤ most_place
  pub y-most : (j : ℕ) → g.y j ≤ most_place
  pub right-none : (i j : ℕ) → g.columns ≤ i → g.inside i j ≡ false
  pub above-none : (i j : ℕ) → g.rows ≤ j → g.inside i j ≡ false

pub record Drawn (g : Grid) (xs ys cells : List ℕ) : Type 0 where
  pub xs-length : length xs ≡ most_lines
  pub ys-length : length ys ≡ most_lines
  pub cells-length : length cells ≡ most_cells
  pub x-at : (i : ℕ) → i ≤ g.columns → get_or xs i 0 ≡ g.x i
  pub y-at : (j : ℕ) → j ≤ g.rows → get_or ys j 0 ≡ g.y j
  pub cell-at : (i j : ℕ) → i < most_lines → j < most_lines → get_or cells (most_lines * i + j) 0 ≡ only (g.inside i j) 1

pub record Memory : Type 0 where
  pub columns : ℕ
  pub rows : ℕ
  pub xs : List ℕ
  pub ys : List ℕ
  pub cells : List ℕ

abbrev pub memory : ℕ → ℕ → List ℕ → List ℕ → List ℕ → Memory
memory columns rows xs ys cells = record { columns = columns; rows = rows; xs = xs; ys = ys; cells = cells }

unfoldable pub stored : ℕ → ℕ → List ℕ → List ℕ → List ℕ → Grid
stored columns rows xs ys cells =
    record {
      columns = columns;
      rows = rows;
      x = λ i. get_or xs (min i columns) 0;
      y = λ j. get_or ys (min j rows) 0;
      inside = λ i j. ltb i columns && (ltb j rows && eqb (get_or cells (most_lines * i + j) 0) 1);
    }
