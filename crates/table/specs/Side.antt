-- Inner: the cells beside a cell, as they lie in memory (nobody has to believe these).
-- `near` is where a column of cells begins: 16 x its number.
--
--   below_at cells near j  == the cell below the row j of a column; below the lowest row there is none
--   before_at a            == where the column before the line a begins; column 15, which lies beyond every frame, stands in for the
--                            one that the first line lacks
use Rattle.std.specs.Prelude.{ℕ, zero, suc, ◌+◌, ◌*◌, List, get_or}

unfoldable pub below_at : List ℕ → ℕ → ℕ → ℕ
below_at cells near zero = 0
below_at cells near (suc j) = get_or cells (near + j) 0

unfoldable pub before_at : ℕ → ℕ
before_at zero = 240
before_at (suc a) = 16 * a
