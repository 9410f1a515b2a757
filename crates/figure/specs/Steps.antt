-- Inner: what the functions on the way to a refusal promise of one ring. Nobody has to believe these.
--
--   corner l k, edge l k, turn l k   == the corner k of the list l, the edge that ends at it, and the turn that does
--   before k n                       == the number before k of n, once round
--   crooked cs                       == the ring with the corners cs is not right_angled: 3 or 4 holds of it
--   Right f                          == the figure f passes 2, 3 and 4
use Rattle.std.specs.Prelude.{ℕ, zero, suc, ◌-◌, ◌≡◌, Bool, false, ◌||◌, List, get_or}
use Rattle.figure.specs.Corners.{Corner, origin, Link, still, Turn, corners, edges, turns, any, slanted, unturned}
use Rattle.figure.specs.Figure.{Figure, rings, bad_figure}

unfoldable pub corner : List ℕ → ℕ → Corner
corner l k = get_or (corners l) k origin

unfoldable pub edge : List ℕ → ℕ → Link Corner
edge l k = get_or (edges (corners l)) k (still origin)

unfoldable pub stop : Turn
stop = record { before = origin; at = origin; after = origin }

unfoldable pub turn : List ℕ → ℕ → Turn
turn l k = get_or (turns (corners l)) k stop

unfoldable pub before : ℕ → ℕ → ℕ
before zero n = n - 1
before (suc k) n = k

unfoldable pub crooked : List Corner → Bool
crooked cs = slanted cs || unturned cs

pub record Right (f : Figure) : Type 0 where
  pub figure-good : bad_figure f ≡ false
  pub slanted-none : any slanted (rings f) ≡ false
  pub unturned-none : any unturned (rings f) ≡ false
