-- The edge of a number: the walk over the rings finds its two corners, and they say where it lies. Assumes nothing.
--
--   leaving-length, leaving-next, leaving-last   == a ring has as many edges as corners; an edge leads to the next corner, the last one to the
--                           first
--   Coming l ns edge first k   == on the way: the edge is one of the rings from the k-th on, whose corners are numbered from first on
--   coming_start, coming_room, coming_next, coming_close, coming_more, coming_end, past-edge   == no ring yet; the next one's corners are there; the edge
--                           is in it; it closes it; it is behind it; all
--   across-upright, across_level, spanned   == where the edge between two corners lies
use Prim.Native.Nat.{ℕ, zero, suc, ◌+◌, ◌*◌, ◌-◌, ◌/◌, ◌≤◌, ◌<◌, min, max}
use mathlib.Core.Path.{◌≡◌, refl, sym, ◌∙◌, ap, ap₂}
use mathlib.Core.Bool.{false, not, cond}
use mathlib.Core.List.{List, [], ◌∷◌, ◌++◌, map}
use mathlib.Core.Logic.{inl, inr}
use native.Mathlib.Omega.{arith}
use lib.ListN.{length, get_or, take, drop, length-append, length-drop, get_or-append}
use lib.Seq.{get_or-append_seam, get_or-append-add, get_or-take, get_or-drop, length-take-le}
use borrow.Author.Tests.{eq-eqb, ne_eqb}
use Rattle.sum.specs.Sum.{join}
use Rattle.sum.proofs.Sum.{le-or}
use Rattle.figure.specs.declared.Axis.{Axis}
use Rattle.figure.specs.declared.Axis.TheVariants.{X, Y}
use Rattle.figure.specs.Corners.{Corner, corners, coordinate, steps, changes, origin, still}
use Rattle.figure.specs.Figure.{figure, share, bad_figure}
use Rattle.figure.specs.Steps.{corner}
use Rattle.figure.proofs.Corners.{length-corners, corner-at}
use Rattle.figure.proofs.Sharing.{corners-whole}
use Rattle.figure.proofs.Walking.{Reached, reached-start, reached-room, reached-next, share-next, share-end}
use Rattle.edge.specs.Edge.{leaving, numbered, edge_at, other, across, stands_at, low_along, high_along, low, high}
use Rattle.edge.specs.Steps.{between, Leads, Spanned}

-- The edges of a ring, by the corners that they leave

steps-length : (p : Corner) (l : List Corner) → length (steps p l) ≡ length l
unfolding steps
steps-length p [] = refl
steps-length p (q ∷ l) = omega (arith, steps-length q l)

steps-at : (p : Corner) (l : List Corner) (j : ℕ) → j < length l
    → get_or (steps p l) j (still origin) ≡ record { from = get_or (p ∷ l) j origin; to = get_or l j origin }
unfolding steps
steps-at p [] j h = absurd (omega arith)
steps-at p (q ∷ l) zero h = refl
steps-at p (q ∷ l) (suc j) h = steps-at q l j (omega arith)

pub leaving-length : (cs : List Corner) → length (leaving cs) ≡ length cs
unfolding leaving
leaving-length [] = refl
leaving-length (s ∷ l) = omega (arith, steps-length s (l ++ s ∷ []), length-append l (s ∷ []))

leaving-at : (s : Corner) (l : List Corner) (j : ℕ) → j < suc (length l)
    → get_or (leaving (s ∷ l)) j (still origin) ≡ record { from = get_or (s ∷ l) j origin; to = get_or (l ++ s ∷ []) j origin }
unfolding leaving
leaving-at s l j h =
    steps-at s (l ++ s ∷ []) j (omega (arith, length-append l (s ∷ [])))
    ∙ ap (λ c. record { from = c; to = get_or (l ++ s ∷ []) j origin }) (get_or-append (s ∷ l) (s ∷ []) origin j h)

pub leaving-next : (cs : List Corner) (j : ℕ) → suc j < length cs
    → get_or (leaving cs) j (still origin) ≡ record { from = get_or cs j origin; to = get_or cs (suc j) origin }
leaving-next [] j h = absurd (omega arith)
leaving-next (s ∷ l) j h =
    leaving-at s l j (omega arith)
    ∙ ap (λ c. record { from = get_or (s ∷ l) j origin; to = c }) (get_or-append l (s ∷ []) origin j (omega arith))

pub leaving-last : (cs : List Corner) (j : ℕ) → suc j ≡ length cs
    → get_or (leaving cs) j (still origin) ≡ record { from = get_or cs j origin; to = get_or cs 0 origin }
leaving-last [] j h = absurd (omega arith)
leaving-last (s ∷ l) j h =
    let z : j ≡ length l = omega arith in
    leaving-at s l j (omega arith)
    ∙ ap (λ c. record { from = get_or (s ∷ l) j origin; to = c }) (ap (λ n. get_or (l ++ s ∷ []) n origin) z ∙ get_or-append_seam l s [] origin)

-- The walk over the rings

-- the corners from a place on
part-corner : (l : List ℕ) (first n j : ℕ) → j < n → 2 * (first + n) ≤ length l
    → get_or (corners (take (2 * n) (drop (2 * first) l))) j origin ≡ corner l (first + j)
unfolding corner
part-corner l first n j h room =
    corner-at m j (omega (arith, long))
    ∙ ap₂ (λ u v. record { x = u; y = v }) (at (2 * j) (2 * (first + j)) (omega arith) (omega arith)) (at (2 * j + 1) (2 * (first + j) + 1) (omega arith) (omega arith))
    ∙ sym (corner-at l (first + j) (omega arith))
  where
    m : List ℕ
    m = take (2 * n) (drop (2 * first) l)

    long : length (take (2 * n) (drop (2 * first) l)) ≡ 2 * n
    long = length-take-le (2 * n) (drop (2 * first) l) (omega (arith, length-drop {A = ℕ} (2 * first) l))

    at : (i k : ℕ) → 2 * first + i ≡ k → i < 2 * n → get_or (take (2 * n) (drop (2 * first) l)) i 0 ≡ get_or l k 0
    at i k e q = get_or-take (2 * n) (drop (2 * first) l) i 0 q ∙ get_or-drop (2 * first) l i 0 ∙ ap (λ k. get_or l k 0) e

module _ (l ns : List ℕ) where
  -- the corners and the edges of the rings from the k-th on
  abbrev pub behind : ℕ → ℕ → List (List Corner)
  behind first k = map corners (share (drop k ns) (drop (2 * first) l))

  pub record Coming (edge first k : ℕ) : Type 0 where
    pub told : edge_at (figure l ns) edge ≡ get_or (join leaving (behind first k)) (edge - first) (still origin)
    pub below : first ≤ edge
    pub left : first + length (join (λ r. r) (behind first k)) ≡ length l / 2
    pub reached : Reached l ns (2 * first) k

  pub coming_start : (edge : ℕ) → bad_figure (figure l ns) ≡ false → Coming edge 0 0
  unfolding edge_at numbered
  coming_start edge h =
      let z : edge - 0 ≡ edge = omega arith in
      record {
        told = ap (λ n. get_or (join leaving (map corners (share ns l))) n (still origin)) (sym z);
        below = omega arith;
        left = omega (arith, ap length (corners-whole (figure l ns) h), length-corners l);
        reached = reached-start l ns h;
      }

  module _ (edge first k n past : ℕ) (here : k < length ns) (long : n ≡ get_or ns k 0) (ends : past ≡ first + n) (c : Coming edge first k) where
    pub coming_room : past ≤ length l / 2
    coming_room =
        let z : 2 * past ≡ 2 * first + 2 * n = omega arith in
        omega (arith, reached-room l ns (2 * first) k n (2 * past) here long z c.reached)

    part : List Corner
    part = corners (take (2 * n) (drop (2 * first) l))

    part_length : length part ≡ n
    unfolding part
    part_length =
        omega (
          arith,
          coming_room,
          length-corners (take (2 * n) (drop (2 * first) l)),
          length-take-le (2 * n) (drop (2 * first) l) (omega (arith, coming_room, length-drop {A = ℕ} (2 * first) l)),
        )

    cons : behind first k ≡ part ∷ behind past (k + 1)
    unfolding part
    cons =
        let z : 2 * past ≡ 2 * first + 2 * n = omega arith in
        let y : 2 * past - 2 * first ≡ 2 * n = omega arith in
        ap (map corners) (share-next l ns (2 * first) k n (2 * past) here long z)
        ∙ ap (λ m. corners (take m (drop (2 * first) l)) ∷ behind past (k + 1)) y

    -- within the ring at hand
    within : edge < past → edge_at (figure l ns) edge ≡ get_or (leaving part) (edge - first) (still origin)
    unfolding join
    within h =
        c.told
        ∙ ap (λ rs. get_or (join leaving rs) (edge - first) (still origin)) cons
        ∙ get_or-append (leaving part) (join leaving (behind past (k + 1))) (still origin) (edge - first) (omega (arith, c.below, leaving-length part, part_length))

    corner-here : (j i : ℕ) → j < n → first + j ≡ i → get_or part j origin ≡ corner l i
    unfolding part
    corner-here j i h e = part-corner l first n j h (omega (arith, coming_room)) ∙ ap (corner l) e

    pub coming_next : edge + 1 < past → Leads (figure l ns) edge (edge + 1)
    unfolding between
    coming_next h =
        record {
          within = omega (arith, coming_room);
          is =
              sym
              (within (omega arith)
              ∙ leaving-next part (edge - first) (omega (arith, c.below, part_length))
              ∙ ap₂ (λ u v. record { from = u; to = v })
              (corner-here (edge - first) edge (omega (arith, c.below)) (omega (arith, c.below)))
              (corner-here (suc (edge - first)) (edge + 1) (omega (arith, c.below)) (omega (arith, c.below))));
        }

    pub coming_close : edge + 1 ≡ past → Leads (figure l ns) edge first
    unfolding between
    coming_close h =
        record {
          within = omega (arith, coming_room, c.below);
          is =
              sym
              (within (omega arith)
              ∙ leaving-last part (edge - first) (omega (arith, c.below, part_length))
              ∙ ap₂ (λ u v. record { from = u; to = v })
              (corner-here (edge - first) edge (omega (arith, c.below)) (omega (arith, c.below)))
              (corner-here 0 first (omega (arith, c.below)) (omega arith)));
        }

    pub coming_more : past ≤ edge → Coming edge past (k + 1)
    unfolding join
    coming_more h =
        let z : 2 * past ≡ 2 * first + 2 * n = omega arith in
        let y : edge - first ≡ length (leaving part) + (edge - past) = omega (arith, leaving-length part, part_length) in
        record {
          told =
              c.told
              ∙ ap (λ rs. get_or (join leaving rs) (edge - first) (still origin)) cons
              ∙ ap (λ m. get_or (leaving part ++ join leaving (behind past (k + 1))) m (still origin)) y
              ∙ get_or-append-add (leaving part) (join leaving (behind past (k + 1))) (edge - past) (still origin);
          below = h;
          left =
              omega (
                arith,
                c.left,
                ap (λ rs. length (join (λ r. r) rs)) cons,
                length-append part (join (λ r. r) (behind past (k + 1))),
                part_length,
              );
          reached = reached-next l ns (2 * first) k n (2 * past) here long z c.reached;
        }

  -- no edge is left
  pub coming_end : (edge first k : ℕ) → Coming edge first k → length ns ≤ k → edge < length l / 2 → ⊥
  unfolding join
  coming_end edge first k c h room =
      omega (arith, c.left, c.below, ap (λ rs. length (join (λ r. r) (map corners rs))) (share-end l ns (2 * first) k h))

-- neither before its end nor at it
pub past-edge : (edge past : ℕ) → past ≤ edge + 1 → (edge + 1 ≡ past → ⊥) → past ≤ edge
past-edge edge past h n = elim (le-or past edge) [
  | inl q ↦ q
  | inr q ↦ absurd (n (omega arith))
]

-- Where the edge between two corners lies

module _ (l : List ℕ) (i j : ℕ) where
  pub across-upright : (u v : ℕ) → u ≡ coordinate X (corner l i) → v ≡ coordinate X (corner l j) → u ≡ v → X ≡ across (between l i j)
  unfolding across between changes
  across-upright u v e f h = sym (ap (λ b. cond (not b) Y X) (eq-eqb (coordinate X (corner l i)) (coordinate X (corner l j)) (sym e ∙ h ∙ f)))

  pub across_level : (u v : ℕ) → u ≡ coordinate X (corner l i) → v ≡ coordinate X (corner l j) → (u ≡ v → ⊥) → Y ≡ across (between l i j)
  unfolding across between changes
  across_level u v e f h = sym (ap (λ b. cond (not b) Y X) (ne_eqb (coordinate X (corner l i)) (coordinate X (corner l j)) (λ z. h (e ∙ z ∙ sym f))))

  module _ (axis b b' : Axis) (p u v : ℕ) (stands : axis ≡ across (between l i j)) (at : p ≡ coordinate axis (corner l j))
      (runs : b ≡ other axis) (runs' : b' ≡ other axis) (from : u ≡ coordinate b (corner l i)) (to : v ≡ coordinate b' (corner l j)) where
    there : p ≡ stands_at (between l i j)
    unfolding stands_at between
    there = at ∙ ap (λ a. coordinate a (corner l j)) stands

    starts : u ≡ coordinate (other (across (between l i j))) (corner l i)
    starts = from ∙ ap (λ b. coordinate b (corner l i)) (runs ∙ ap other stands)

    stops : v ≡ coordinate (other (across (between l i j))) (corner l j)
    stops = to ∙ ap (λ b. coordinate b (corner l j)) (runs' ∙ ap other stands)

    ends : (min u v ≡ low (between l i j)) × (max u v ≡ high (between l i j))
    unfolding low high low_along high_along between
    ends = (ap₂ min starts stops, ap₂ max starts stops)

    pub spanned : (lo hi : ℕ) → lo ≡ min u v → hi ≡ max u v → Spanned (between l i j) axis p lo hi
    spanned lo hi e h = record { axis_is = stands; at-is = there; low-is = e ∙ ends.0; high_is = h ∙ ends.1 }
