-- Inner: what each cell adds to the sums of the strips that it lies in (nobody has to believe these).
-- A cell has five shares: 1 where it is inside, and its exposed bottom, top, left and right side in nm. `unit` has them in five runs of
-- 512 numbers, that of the cell (i, j) at 32 j + i of each run. There is room for 32 cells in a row, so that a strip which begins
-- in the frame and ends beyond it finds its cells too: they are not inside, and their shares are 0.
--
--   five c b t l r n      == the n-th of five numbers
--   share g r i j         == the r-th share of the cell (i, j): 0 inside, 1 bottom, 2 top, 3 left, 4 right
--   low_neighbour k here step beyond
--                         == where the cell before the k-th of a row or column stands, the k-th standing at here; for the one that the
--                            first lacks stands one beyond the frame
--   share_of xs ys cells i j r
--                         == the same share by the lists in memory
--   Measurable xs ys cells i j
--                         == the cell (i, j) with all that touch it lies in the lists, and the places beside it do not fall
--   Spans wide high xs ys i j
--                         == the cell (i, j) is so wide and so high, in nm
--   Around cell under above before after cells i j
--                         == this is the cell (i, j), and these are the cells across its bottom, top, left and right side
--   Put f at t u          == u is the list t with f r at the place `at` of the r-th run, for all five
--   Laid g xs ys cells    == the grid g is sound, and lies in memory so
--   Row g columns j xs ys cells
--                         == the same for a grid of so many columns that has a row j
--   UnitsTo g n unit      == unit has the shares of all cells whose place 32 j + i is below n, and 0 from there on; none is above 65535
--   Units g unit          == unit has the shares of all cells, and nothing above 65535
--   span_of xs w a         == from the a-th place to the one w lines higher
--   Rising xs columns w   == the places of so many columns never fall from a line to the one w lines higher
use Rattle.std.specs.Prelude.{ℕ, zero, suc, ◌+◌, ◌*◌, ◌-◌, ◌≤◌, ◌<◌, ◌≡◌, List, [], ◌∷◌, length, get_or}
use Rattle.sum.specs.Sum.{only}
use Rattle.outline.specs.Grid.{Grid, Sound, Drawn}
use Rattle.piece.specs.Piece.{low_side, high_side, width, height}
use Rattle.table.specs.Run.{bare}

unfoldable pub five : ℕ → ℕ → ℕ → ℕ → ℕ → ℕ → ℕ
five c b t l r n = get_or (c ∷ b ∷ t ∷ l ∷ r ∷ []) n 0

unfoldable pub share : Grid → ℕ → ℕ → ℕ → ℕ
share g r i j =
    five (only (g.inside i j) 1) (only (low_side (g.inside i) j) (width g i (suc i))) (only (high_side (g.inside i) (suc j)) (width g i (suc i)))
    (only (low_side (λ k. g.inside k j) i) (height g j (suc j))) (only (high_side (λ k. g.inside k j) (suc i)) (height g j (suc j))) r

unfoldable pub low_neighbour : ℕ → ℕ → ℕ → ℕ → ℕ
low_neighbour zero here step beyond = beyond
low_neighbour (suc k) here step beyond = here - step

unfoldable pub share_of : List ℕ → List ℕ → List ℕ → ℕ → ℕ → ℕ → ℕ
share_of xs ys cells i j r =
    five (get_or cells (16 * i + j) 0)
    (bare (get_or cells (16 * i + j) 0) (get_or cells (low_neighbour j (16 * i + j) 1 (16 * i + 15)) 0) (get_or xs (i + 1) 0 - get_or xs i 0))
    (bare (get_or cells (16 * i + j) 0) (get_or cells (16 * i + j + 1) 0) (get_or xs (i + 1) 0 - get_or xs i 0))
    (bare (get_or cells (16 * i + j) 0) (get_or cells (low_neighbour i (16 * i + j) 16 (240 + j)) 0) (get_or ys (j + 1) 0 - get_or ys j 0))
    (bare (get_or cells (16 * i + j) 0) (get_or cells (16 * i + j + 16) 0) (get_or ys (j + 1) 0 - get_or ys j 0)) r

pub record Measurable (xs ys cells : List ℕ) (i j : ℕ) : Type 0 where
  pub xs-long : length xs ≡ 16
  pub ys-long : length ys ≡ 16
  pub cells-long : length cells ≡ 256
  pub column : i ≤ 14
  pub row : j ≤ 14
  pub x-up : get_or xs i 0 ≤ get_or xs (i + 1) 0
  pub y-up : get_or ys j 0 ≤ get_or ys (j + 1) 0

pub record Spans (wide high : ℕ) (xs ys : List ℕ) (i j : ℕ) : Type 0 where
  pub wide-is : wide ≡ get_or xs (i + 1) 0 - get_or xs i 0
  pub high-is : high ≡ get_or ys (j + 1) 0 - get_or ys j 0
  pub wide-most : wide ≤ 65535
  pub high-most : high ≤ 65535

pub record Around (cell under above before after : ℕ) (cells : List ℕ) (i j : ℕ) : Type 0 where
  pub cell-is : cell ≡ get_or cells (16 * i + j) 0
  pub under-is : under ≡ get_or cells (low_neighbour j (16 * i + j) 1 (16 * i + 15)) 0
  pub above-is : above ≡ get_or cells (16 * i + j + 1) 0
  pub before-is : before ≡ get_or cells (low_neighbour i (16 * i + j) 16 (240 + j)) 0
  pub after-is : after ≡ get_or cells (16 * i + j + 16) 0

pub record Put (f : ℕ → ℕ) (at : ℕ) (t u : List ℕ) : Type 0 where
  pub long : length u ≡ length t
  pub made : (r : ℕ) → r < 5 → get_or u (512 * r + at) 0 ≡ f r
  pub kept : (r k : ℕ) → k < 512 → (k ≡ at → ⊥) → get_or u (512 * r + k) 0 ≡ get_or t (512 * r + k) 0

pub record Laid (g : Grid) (xs ys cells : List ℕ) : Type 0 where
  pub sound : Sound g
  pub drawn : Drawn g xs ys cells

pub record Row (g : Grid) (columns j : ℕ) (xs ys cells : List ℕ) : Type 0 where
  pub laid : Laid g xs ys cells
  pub columns_are : g.columns ≡ columns
  pub row : j < g.rows

pub record UnitsTo (g : Grid) (n : ℕ) (unit : List ℕ) : Type 0 where
  pub long : length unit ≡ 2560
  pub done : (r i j : ℕ) → r < 5 → i < 32 → j < g.rows → 32 * j + i < n → get_or unit (512 * r + (32 * j + i)) 0 ≡ share g r i j
  pub none : (r k : ℕ) → r < 5 → k < 512 → n ≤ k → get_or unit (512 * r + k) 0 ≡ 0
  pub most : (r k : ℕ) → r < 5 → k < 512 → get_or unit (512 * r + k) 0 ≤ 65535

pub record Units (g : Grid) (unit : List ℕ) : Type 0 where
  pub long : length unit ≡ 2560
  pub shares : (r i j : ℕ) → r < 5 → i < 32 → j < g.rows → get_or unit (512 * r + (32 * j + i)) 0 ≡ share g r i j
  pub most : (r k : ℕ) → r < 5 → k < 512 → get_or unit (512 * r + k) 0 ≤ 65535

unfoldable pub span_of : List ℕ → ℕ → ℕ → ℕ
span_of xs w a = get_or xs (a + w) 0 - get_or xs a 0

pub record Rising (xs : List ℕ) (columns w : ℕ) : Type 0 where
  pub long : length xs ≡ 16
  pub columns-most : columns ≤ 15
  pub wide-most : w ≤ columns
  pub up : (a : ℕ) → a + w ≤ columns → get_or xs a 0 ≤ get_or xs (a + w) 0
