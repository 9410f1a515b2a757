-- Inner: the pieces of one sort of one to three rows, from their cells and reaches at a column (nobody has to believe these).
--
--   of_one r              == twice the lines within the pieces of one row that begin there: 1, 2, .. r columns wide
--   of_two                == those of each of two rows, and of both where they have one sort
--   of_three              == those of the two upper rows, and of the ones that begin at the lowest
use Rattle.std.specs.Prelude.{ℕ, ◌+◌, min, cond, eqb}
use Rattle.count.specs.Corners.{share}

unfoldable pub of_one : ℕ → ℕ
of_one r = share r 0

unfoldable pub of_two : ℕ → ℕ → ℕ → ℕ → ℕ
of_two low high r s = of_one r + of_one s + cond (eqb high low) (share (min r s) 1) 0

unfoldable pub of_three : ℕ → ℕ → ℕ → ℕ → ℕ → ℕ → ℕ
of_three low middle high r s t =
    of_one r + of_two middle high s t + cond (eqb middle low) (share (min r s) 1 + cond (eqb high low) (share (min (min r s) t) 2) 0) 0
