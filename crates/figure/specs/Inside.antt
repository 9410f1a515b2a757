-- To believe: what is inside, by the odd count on the raw corners.
--
--   Wall               == a vertical edge: its x, and the low and the high end of its span in y
--   wall e, walls es   == the wall that the edge e is, if it is vertical; those of the edges es
--   covers x lo hi w   == the wall w stands at or left of x, and its span covers lo to hi
--   count t ws         == how many of the walls ws pass the test t
--   within ws x lo hi  == inside, right of x and from lo to hi: the number of walls that cover it is odd
--   inside_at f x y     == inside at the nanometre: the unit square from (x, y) to (x + 1, y + 1) of the figure f
use Rattle.std.specs.Prelude.{ℕ, suc, min, max, Bool, cond, ◌&&◌, List, [], ◌∷◌, leb}
use Rattle.sum.specs.Sum.{only, sum_of, join}
use Rattle.figure.specs.declared.Axis.TheVariants.{X}
use Rattle.figure.specs.Corners.{Corner, Link, changes, odd}
use Rattle.figure.specs.Figure.{Figure, edges_of}

pub record Wall : Type 0 where
  pub x : ℕ
  pub lo : ℕ
  pub hi : ℕ

unfoldable pub wall : Link Corner → List Wall
wall e =
    cond (changes X e) []
    (record { x = e.to.x; lo = min e.from.y e.to.y; hi = max e.from.y e.to.y } ∷ [])

unfoldable pub walls : List (Link Corner) → List Wall
walls es = join wall es

unfoldable pub covers : ℕ → ℕ → ℕ → Wall → Bool
covers x lo hi w = leb w.x x && (leb w.lo lo && leb hi w.hi)

unfoldable pub count : (Wall → Bool) → List Wall → ℕ
count t ws = sum_of (λ w. only (t w) 1) ws

unfoldable pub within : List Wall → ℕ → ℕ → ℕ → Bool
within ws x lo hi = odd (count (covers x lo hi) ws)

unfoldable pub inside_at : Figure → ℕ → ℕ → Bool
inside_at f x y = within (walls (edges_of f)) x y (suc y)
