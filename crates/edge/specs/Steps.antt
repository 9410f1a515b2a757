-- Inner: what the functions on the way promise. Nobody has to believe these.
--
--   standing x y e           == the edge e is upright, at or left of x, and its span takes in the stretch y
--   spans lo hi y            == a span from lo to hi takes in the stretch y
--   link a b c d             == the edge from (a, b) to (c, d)
--   inside_by l n x y         == an odd number of the first n edges of the ring with the numbers l stand so
--   ring_holds l x y          == the ring with the numbers l holds the square at (x, y)
--   turned inside hit        == one thing more that turns inside and outside over, if it does
--   seen_by, beneath_by        == `seen` and `beneath` of a figure
--   low_of, face_of            == the number of the low side; the side by the two squares beside a stretch
--   side_on, side_by           == the side of a shot that a stretch lies on, by the shot's four numbers
--   shot_by c a l p k         == the first shot of l that has the side c there so, numbered from 1
--   Solid a l                == each shot of l has an extent along the axis a
--   side_no n s, shot_no s   == the number of a side, that of the low one being n, and of a shot; 0 for none
--   FromOne s                == a shot's number is 1 at least
--   told a r                 == where the code says that a stretch ends up, across the axis a
--   place_of b l i            == the place of corner i of the numbers l along the axis b
--   Nearer, Free, Steady, Whole  == of a place and the nearest so far; no corner lies between; up to there all end up alike; a whole run
--   run_count, put4, runs_written  == how many runs; four numbers written; all runs written
--   between l i j            == the edge from corner i of the numbers l to corner j
--   Leads f k r              == the edge number k of the figure f leads from corner k to corner r
--   Spanned e axis at lo hi  == where the edge e stands, and its ends
use Rattle.std.specs.Prelude.{ℕ, suc, ◌+◌, ◌-◌, ◌/◌, ◌<◌, ◌≤◌, ◌≡◌, Bool, false, not, cond, ◌&&◌, List, [], ◌∷◌, ◌++◌, leb, ltb, eqb, length, take, drop, Option, Some, None}
use Rattle.sum.specs.Sum.{only, sum_of, All}
use Rattle.figure.specs.declared.Axis.{Axis}
use Rattle.figure.specs.declared.Axis.TheVariants.{X, Y}
use Rattle.figure.specs.Corners.{Corner, Link, corners, coordinate, edges, changes, odd}
use Rattle.figure.specs.Figure.{Figure}
use Rattle.figure.specs.Inside.{walls, within, inside_at}
use Rattle.figure.specs.Steps.{corner}
use Rattle.shot.specs.Shot.{Shot}
use Rattle.demands.specs.Promise.{written}
use Rattle.edge.specs.Edge.{across, stands_at, low_along, high_along, low, high, edge_at, seen, beneath}
use Rattle.edge.specs.declared.Side.{Side}
use Rattle.edge.specs.declared.Side.TheVariants.{Low, High}
use Rattle.edge.specs.declared.Landed.{Landed}
use Rattle.edge.specs.Landing.{low_side, first, Landing, alike, runs}
use Rattle.edge.specs.Promise.{run_numbers}

unfoldable pub standing : ℕ → ℕ → Link Corner → Bool
standing x y e = not (changes X e) && (leb e.to.x x && (leb (low_along Y e) y && leb (suc y) (high_along Y e)))

unfoldable pub spans : ℕ → ℕ → ℕ → Bool
spans lo hi y = leb lo y && ltb y hi

unfoldable pub link : ℕ → ℕ → ℕ → ℕ → Link Corner
link a b c d = record { from = record { x = a; y = b }; to = record { x = c; y = d } }

unfoldable pub inside_by : List ℕ → ℕ → ℕ → ℕ → Bool
inside_by l n x y = odd (sum_of (λ e. only (standing x y e) 1) (take n (edges (corners l))))

unfoldable pub ring_holds : List ℕ → ℕ → ℕ → Bool
ring_holds l x y = within (walls (edges (corners l))) x y (suc y)

unfoldable pub turned : Bool → Bool → Bool
turned inside hit = cond hit (not inside) inside

unfoldable pub seen_by : Axis → Figure → ℕ → ℕ → Bool
seen_by a f p k = seen a (inside_at f) p k

unfoldable pub beneath_by : Axis → Figure → ℕ → ℕ → Bool
beneath_by a f p k = beneath a (inside_at f) p k

unfoldable pub low_of : Axis → ℕ
low_of a = low_side a

unfoldable pub face_of : Bool → Bool → ℕ → ℕ
face_of beyond beneath low = cond beyond (cond beneath 0 low) (cond beneath (suc low) 0)

unfoldable pub side_on : ℕ → ℕ → ℕ → ℕ → ℕ → ℕ → ℕ → ℕ
side_on lo hi from to p k c = cond (leb from k && ltb k to) (cond (eqb lo p) c (cond (eqb hi p) (suc c) 0)) 0

unfoldable pub side_by : Axis → Shot → ℕ → ℕ → ℕ
side_by X s p k = side_on s.xlow s.xhigh s.ylow s.yhigh p k 1
side_by Y s p k = side_on s.ylow s.yhigh s.xlow s.xhigh p k 3

unfoldable pub shot_by : ℕ → Axis → List Shot → ℕ → ℕ → ℕ
shot_by c a l p k = first (λ s. eqb (side_by a s p k) c) l 1

unfoldable pub Solid : Axis → List Shot → Type 0
Solid X l = All (λ s. s.xlow < s.xhigh) l
Solid Y l = All (λ s. s.ylow < s.yhigh) l

unfoldable pub side_no : ℕ → Option Side → ℕ
side_no n None = 0
side_no n (Some Low) = n
side_no n (Some High) = n + 1

unfoldable pub shot_no : Option ℕ → ℕ
shot_no None = 0
shot_no (Some n) = n

unfoldable pub FromOne : Option ℕ → Type 0
FromOne s = s ≡ Some 0 → ⊥

unfoldable pub told : Axis → Landed → Landing
told a r = record { shot = shot_no r.shot; side = side_no (low_of a) r.side }

-- r is best, or the place if it lies between k and best
pub record Nearer (place k best r : ℕ) : Type 0 where
  pub past : k < r
  pub within : r ≤ best
  pub none : (k < place → place < r → ⊥)

unfoldable pub place_of : Axis → List ℕ → ℕ → ℕ
place_of b l i = coordinate b (corner l i)

-- along the axis b no one of the first n corners lies between k and r, and r is at most high
pub record Free (b : Axis) (l : List ℕ) (n k high r : ℕ) : Type 0 where
  pub past : k < r
  pub within : r ≤ high
  pub none : (j : ℕ) → j < n → k < place_of b l j → place_of b l j < r → ⊥

-- from k to r the stretches end up as the first of them does
pub record Steady (f : ℕ → Landing) (k high r : ℕ) : Type 0 where
  pub past : k < r
  pub within : r ≤ high
  pub same : (j : ℕ) → k ≤ j → j < r → f j ≡ f k

-- from k to r the stretches end up on that side of that shot, and the next one, if there is one before high, does not
pub record Whole (f : ℕ → Landing) (k high r shot side : ℕ) : Type 0 where
  pub past : k < r
  pub within : r ≤ high
  pub says : (j : ℕ) → k ≤ j → j < r → f j ≡ record { shot = shot; side = side }
  pub ends : r < high → alike (record { shot = shot; side = side }) (f r) ≡ false

unfoldable pub run_count : (ℕ → Landing) → ℕ → ℕ → ℕ
run_count f k high = length (runs f k (high - k))

-- four numbers written from i on
unfoldable pub put4 : List ℕ → ℕ → ℕ → ℕ → ℕ → ℕ → List ℕ
put4 t i a b c d = take i t ++ ((a ∷ b ∷ c ∷ d ∷ []) ++ drop (i + 4) t)

unfoldable pub runs_written : (ℕ → Landing) → ℕ → ℕ → List ℕ → List ℕ
runs_written f k high t = written (run_numbers (runs f k (high - k))) t

unfoldable pub between : List ℕ → ℕ → ℕ → Link Corner
between l i j = record { from = corner l i; to = corner l j }

pub record Leads (f : Figure) (k r : ℕ) : Type 0 where
  pub within : r < length f.numbers / 2
  pub is : between f.numbers k r ≡ edge_at f k

pub record Spanned (e : Link Corner) (axis : Axis) (at lo hi : ℕ) : Type 0 where
  pub axis_is : axis ≡ across e
  pub at-is : at ≡ stands_at e
  pub low-is : lo ≡ low e
  pub high_is : hi ≡ high e
