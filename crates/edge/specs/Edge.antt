-- To believe: one edge of a figure, at stretches of 1 nm. Nothing here knows of lines, cells or pieces.
--
-- A stretch is named by an axis a, a place p along a, and a number k: it lies at p, across a, and runs from k to k + 1 along the other
-- axis. So (X, p, k) is a stretch of an upright edge at x = p, and (Y, p, k) one of a level edge at y = p.
--
--   leaving cs              == the edges of a ring in the order of the corners that they leave
--   numbered f              == the edges of the figure f so: edge k is the one from corner k, counted over all rings, to the next corner
--                              of its ring
--   edge_at f k              == the edge number k
--   other a                 == the other axis
--   across e                == the axis that the edge e stands across: X for an upright edge, Y for a level one
--   stands_at e              == its place along that axis
--   low_along, high_along a e == the lower and the higher of its two ends along the axis a
--   low e, high e           == its low end and its high end, along the axis that it runs along
--   drawn_over a p k e       == the edge e is drawn over the stretch
--   strokes a p k es        == how many of the edges es are
--   seen a F                == the figure F, x and y exchanged where a is Y
--   beneath, beyond a F p k == whether the square on the low side of the stretch is inside, and the one on its high side
--   wall_at u v              == exactly one of the two is inside
use Rattle.std.specs.Prelude.{ℕ, suc, min, max, Bool, not, cond, ◌&&◌, ◌||◌, List, [], ◌∷◌, ◌++◌, leb, eqb, get_or}
use Rattle.sum.specs.Sum.{only, sum_of, join}
use Rattle.figure.specs.declared.Axis.{Axis}
use Rattle.figure.specs.declared.Axis.TheVariants.{X, Y}
use Rattle.figure.specs.Corners.{Corner, Link, coordinate, steps, changes, still, origin}
use Rattle.figure.specs.Figure.{Figure, rings}
use Rattle.demands.specs.Square.{prior, exposed}

unfoldable pub leaving : List Corner → List (Link Corner)
leaving [] = []
leaving (s ∷ l) = steps s (l ++ s ∷ [])

unfoldable pub numbered : Figure → List (Link Corner)
numbered f = join leaving (rings f)

unfoldable pub edge_at : Figure → ℕ → Link Corner
edge_at f k = get_or (numbered f) k (still origin)

abbrev pub other : Axis → Axis
other X = Y
other Y = X

unfoldable pub across : Link Corner → Axis
across e = cond (changes X e) Y X

unfoldable pub stands_at : Link Corner → ℕ
stands_at e = coordinate (across e) e.to

unfoldable pub low_along : Axis → Link Corner → ℕ
low_along a e = min (coordinate a e.from) (coordinate a e.to)

unfoldable pub high_along : Axis → Link Corner → ℕ
high_along a e = max (coordinate a e.from) (coordinate a e.to)

unfoldable pub low : Link Corner → ℕ
low e = low_along (other (across e)) e

unfoldable pub high : Link Corner → ℕ
high e = high_along (other (across e)) e

unfoldable pub drawn_over : Axis → ℕ → ℕ → Link Corner → Bool
drawn_over a p k e =
    not (changes a e) && (eqb (coordinate a e.to) p && (leb (low_along (other a) e) k && leb (suc k) (high_along (other a) e)))

unfoldable pub strokes : Axis → ℕ → ℕ → List (Link Corner) → ℕ
strokes a p k es = sum_of (λ e. only (drawn_over a p k e) 1) es

abbrev pub seen : Axis → (ℕ → ℕ → Bool) → ℕ → ℕ → Bool
seen X F p k = F p k
seen Y F p k = F k p

unfoldable pub beneath : Axis → (ℕ → ℕ → Bool) → ℕ → ℕ → Bool
beneath a F p k = prior (λ q. seen a F q k) p

unfoldable pub beyond : Axis → (ℕ → ℕ → Bool) → ℕ → ℕ → Bool
beyond a F p k = seen a F p k

unfoldable pub wall_at : Bool → Bool → Bool
wall_at u v = exposed u v || exposed v u
