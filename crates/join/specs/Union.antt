-- To believe: how the corners of a set of unit squares are counted. The square (x, y) runs from (x, y) to (x + 1, y + 1).
--
--   union a b x y        == the square (x, y) is in the shot a or in the shot b
--   before f x           == f of the line before x; there is none before 0
--   turns sw se nw ne    == how many corners there are at a grid point, by which of the four squares around it are in: one where their
--                           number is odd, two where just two are in that lie across, else none
--   corners_at F x y      == the corners of the set F at the grid point (x, y)
--   corners F n          == those at all grid points with x and y below n
use Rattle.std.specs.Prelude.{ℕ, zero, suc, Bool, true, false, ◌||◌}
use Rattle.sum.specs.Sum.{over}
use Rattle.shot.specs.Shot.{Shot, holds}

unfoldable pub union : Shot → Shot → ℕ → ℕ → Bool
union a b x y = holds x y a || holds x y b

abbrev pub before : (ℕ → Bool) → ℕ → Bool
before f zero = false
before f (suc x) = f x

abbrev pub turns : (sw se nw ne : Bool) → ℕ
turns true true true true = 0
turns true true true false = 1
turns true true false true = 1
turns true false true true = 1
turns false true true true = 1
turns true true false false = 0
turns false false true true = 0
turns true false true false = 0
turns false true false true = 0
turns true false false true = 2
turns false true true false = 2
turns true false false false = 1
turns false true false false = 1
turns false false true false = 1
turns false false false true = 1
turns false false false false = 0

unfoldable pub corners_at : (ℕ → ℕ → Bool) → ℕ → ℕ → ℕ
corners_at F x y =
    turns (before (λ u. before (F u) y) x) (before (F x) y) (before (λ u. F u y) x) (F x y)

unfoldable pub corners : (ℕ → ℕ → Bool) → ℕ → ℕ
corners F n = over 0 n (λ x. over 0 n (corners_at F x))
