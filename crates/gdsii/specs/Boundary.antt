-- To believe: the points of a boundary, its ring moved to 0, and refusals 17 and 18.
-- A coordinate is signed, four bytes, high first. It is kept raised by 2^31, so that the order of raised numbers is that of the
-- coordinates and their differences are the same; only the shift is told as it stands in the element.
--
--   half                     == 2^31
--   word_at s p               == the four bytes at a place as a number, high first
--   raise v                  == the coordinate of these four bytes, raised
--   signed r                 == the coordinate itself
--   Point                    == a raised x and a raised y
--   along a p                == the raised place of the point p along the axis a
--   point_at s p              == the point at a place, eight bytes
--   points_from s p n, points s run == n points from a place on; the points of a run of them
--   lowest_from a low ps, highest_from a high ps == the lowest of a place and the points along the axis a; the highest
--   lowest a ps, highest a ps == the same of the points alone
--   apart p q                == the points p and q differ
--   unclosed ps              == 17: the last point is unlike the first
--   broad a ps               == 18: the points extend over more than 65,535 nm along the axis a
--   ring_of ps                == the corners: all points but the last, which repeats the first
--   numbers_of x y ps         == points as x, y, x, y, .. less the raised places x and y
--   moved ps                 == the corners x, y, x, y, .. with the lowest x and the lowest y moved to 0
--   shift a ps               == what was taken off along the axis a: shift plus corner gives back each point
--   figure_of ps              == the figure of this one ring
--   bounded ps next          == 17 and 18 of the points ps, or these points
--   boundary s               == the points of an element: the first of 8 and 16, then 17, then 18
use Rattle.std.specs.Prelude.{ℕ, zero, suc, ◌+◌, ◌*◌, ◌-◌, min, max, Bool, false, cond, not, ◌&&◌, ◌||◌, List, [], ◌∷◌, ltb, eqb, length, take, ℤ}
use Rattle.std.proofs.Math.IntN.{sub_ℕ}
use Rattle.figure.specs.declared.Axis.{Axis}
use Rattle.figure.specs.declared.Axis.TheVariants.{X, Y}
use Rattle.figure.specs.Corners.{last}
use Rattle.figure.specs.Figure.{Figure, figure, most_place}
use Rattle.gdsii.specs.declared.stream.Run.{Run}
use Rattle.refusal.specs.declared.Refusal.TheVariants as because
use Rattle.number.specs.Reading.{Reading, read, fault, and_then}
use Rattle.gdsii.specs.Record.{pair_at, element}

abbrev pub half : ℕ
half = 2147483648

unfoldable pub word_at : List ℕ → ℕ → ℕ
word_at s p = 65536 * pair_at s p + pair_at s (p + 2)

-- a number from 2^31 on stands for itself less 2^32
unfoldable pub raise : ℕ → ℕ
raise v = cond (ltb v half) (v + half) (v - half)

abbrev pub signed : ℕ → ℤ
signed r = sub_ℕ r half

pub record Point : Type 0 where
  pub x : ℕ
  pub y : ℕ

unfoldable pub along : Axis → Point → ℕ
along X p = p.x
along Y p = p.y

unfoldable pub point_at : List ℕ → ℕ → Point
point_at s p = record { x = raise (word_at s p); y = raise (word_at s (p + 4)) }

unfoldable pub points_from : List ℕ → ℕ → ℕ → List Point
points_from s p zero = []
points_from s p (suc n) = point_at s p ∷ points_from s (p + 8) n

abbrev pub points : List ℕ → Run → List Point
points s run = points_from s run.first run.count

unfoldable pub lowest_from : Axis → ℕ → List Point → ℕ
lowest_from a low [] = low
lowest_from a low (p ∷ ps) = lowest_from a (min low (along a p)) ps

unfoldable pub highest_from : Axis → ℕ → List Point → ℕ
highest_from a high [] = high
highest_from a high (p ∷ ps) = highest_from a (max high (along a p)) ps

-- no raised number is above 2^32 - 1, and none below 0
abbrev pub lowest : Axis → List Point → ℕ
lowest a ps = lowest_from a 4294967295 ps

abbrev pub highest : Axis → List Point → ℕ
highest a ps = highest_from a 0 ps

unfoldable pub apart : Point → Point → Bool
apart p q = not (eqb p.x q.x && eqb p.y q.y)

unfoldable pub unclosed : List Point → Bool
unclosed [] = false
unclosed (p ∷ ps) = apart p (last p ps)

unfoldable pub broad : Axis → List Point → Bool
broad a ps = ltb (lowest a ps + most_place) (highest a ps)

abbrev pub ring_of : List Point → List Point
ring_of ps = take (length ps - 1) ps

unfoldable pub numbers_of : ℕ → ℕ → List Point → List ℕ
numbers_of x y [] = []
numbers_of x y (p ∷ ps) = (p.x - x) ∷ (p.y - y) ∷ numbers_of x y ps

unfoldable pub moved : List Point → List ℕ
moved ps = numbers_of (lowest X ps) (lowest Y ps) (ring_of ps)

abbrev pub shift : Axis → List Point → ℤ
shift a ps = signed (lowest a ps)

abbrev pub figure_of : List Point → Figure
figure_of ps = figure (moved ps) (length (ring_of ps) ∷ [])

unfoldable pub bounded : List Point → ℕ → Reading (List Point)
bounded ps next =
    cond (unclosed ps) (fault because.Unclosed 0)
    (cond (broad X ps || broad Y ps) (fault because.Extent 0) (read ps next))

unfoldable pub boundary : List ℕ → Reading (List Point)
boundary s = and_then (element s) (λ run next. bounded (points s run) next)
