-- Inner: how large the sums of strips can be (nobody has to believe these).
--
--   Measured rows sums == in every lane, whether its strip ends in the frame or beyond it, the sums of so many rows are within what places
--                         and cells allow: those of any rows one above the other for inside cells and flanks, and those of one row for
--                         bottoms and tops
use Rattle.std.specs.Prelude.{ℕ, ◌+◌, ◌*◌, ◌≤◌, ◌<◌, ◌≡◌, List, length, get_or}
use Rattle.sum.specs.Sum.{over}

pub record Measured (rows : ℕ) (sums : List ℕ) : Type 0 where
  pub long : length sums ≡ 1024
  pub count_most : (a b d : ℕ) → a < 16 → b ≤ d → d ≤ rows → over b d (λ j. get_or sums (16 * j + a) 0) ≤ 225
  pub bottom-most : (a b : ℕ) → a < 16 → b < rows → get_or sums (256 + (16 * b + a)) 0 ≤ 65535
  pub top-most : (a d : ℕ) → a < 16 → d < rows → get_or sums (512 + (16 * d + a)) 0 ≤ 65535
  pub flank_most : (a b d : ℕ) → a < 16 → b ≤ d → d ≤ rows → over b d (λ j. get_or sums (768 + (16 * j + a)) 0) ≤ 131070
