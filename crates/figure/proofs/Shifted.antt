-- A drawing that is moved: 2, 3 and 4 hold of both or of neither, its coordinates and walls move along, and so does what is inside. Assumes
-- nothing.
--
--   ltb_moved, leb_moved, eqb_moved   == tests go by differences
--   fault-shifted       == a drawing that is moved has the same fault
--   places-shifted      == its coordinates are those of the drawing, moved
--   within-shifted      == what was within is within, moved
use Prim.Native.Nat.{ℕ, ◌+◌, min, max}
use mathlib.Core.Path.{◌≡◌, refl, sym, ◌∙◌, ap, ap₂}
use mathlib.Core.Bool.{Bool, true, false, not, cond, ◌&&◌, ◌||◌}
use mathlib.Core.List.{List, [], ◌∷◌, ◌++◌, map, map-append}
use native.Mathlib.Omega.{arith}
use lib.Dec.{leb, ltb, eqb}
use lib.ListN.{length, length-map}
use borrow.Author.Tests.{lt-ltb, le-ltb, lt-leb, le-leb, eq-eqb, ne_eqb, ltb-true, ltb-false, leb-true, leb-false, eqb-true, eqb-false}
use Rattle.sum.specs.Sum.{only, sum_of, join}
use Rattle.sum.proofs.Lists.{sum_of-join, sum_of-map, sum_of-same, All-all}
use Rattle.figure.specs.declared.Axis.{Axis}
use Rattle.figure.specs.declared.Axis.TheVariants.{X, Y}
use Rattle.figure.specs.Corners.{Corner, Link, coordinate, around, edges, turns, changes, both, neither, alike, any, slanted, unturned, odd}
use Rattle.figure.specs.Figure.{rings, bad_length, fault}
use Rattle.figure.specs.Inside.{Wall, wall, walls, covers, count, within}
use Rattle.figure.specs.Redrawn.{of_rings, moved, shifted}
use Rattle.figure.proofs.Around.{each, around-map}
use Rattle.figure.proofs.Redrawn.{rings-back, bad_rings, bad_rings_lem, same_pair, alike_links, any-map}

pub ltb_moved : (a b d : ℕ) → ltb (a + d) (b + d) ≡ ltb a b
ltb_moved a b d = go (ltb a b) refl
  where
    go : (t : Bool) → ltb a b ≡ t → ltb (a + d) (b + d) ≡ t
    go true e = lt-ltb (a + d) (b + d) (omega (arith, ltb-true a b e))
    go false e = le-ltb (a + d) (b + d) (omega (arith, ltb-false a b e))

pub leb_moved : (a b d : ℕ) → leb (a + d) (b + d) ≡ leb a b
leb_moved a b d = go (leb a b) refl
  where
    go : (t : Bool) → leb a b ≡ t → leb (a + d) (b + d) ≡ t
    go true e = le-leb (a + d) (b + d) (omega (arith, leb-true a b e))
    go false e = lt-leb (a + d) (b + d) (omega (arith, leb-false a b e))

pub eqb_moved : (a b d : ℕ) → eqb (a + d) (b + d) ≡ eqb a b
eqb_moved a b d = go (eqb a b) refl
  where
    go : (t : Bool) → eqb a b ≡ t → eqb (a + d) (b + d) ≡ t
    go true e = eq-eqb (a + d) (b + d) (omega (arith, eqb-true a b e))
    go false e = ne_eqb (a + d) (b + d) (λ q. eqb-false a b e (omega arith))

module _ (dx dy : ℕ) where
  abbrev to : Corner → Corner
  to = moved dx dy

  abbrev pub by : Axis → ℕ
  by X = dx
  by Y = dy

  coordinate-moved : (a : Axis) (c : Corner) → coordinate a (to c) ≡ coordinate a c + by a
  unfolding coordinate
  coordinate-moved X c = refl
  coordinate-moved Y c = refl

  changes-moved : (a : Axis) (e : Link Corner) → changes a (each to e) ≡ changes a e
  unfolding changes
  changes-moved a e =
      ap not
      (ap₂ eqb (coordinate-moved a e.from) (coordinate-moved a e.to)
      ∙ eqb_moved (coordinate a e.from) (coordinate a e.to) (by a))

  edges-moved : (cs : List Corner) → edges (map to cs) ≡ map (each to) (edges cs)
  unfolding edges
  edges-moved cs = around-map to cs

  -- a test of edges, and one of edges in a row
  module _ (t : Link Corner → Bool) (fair : (e : Link Corner) → t (each to e) ≡ t e) where
    any-edges : (cs : List Corner) → any t (edges (map to cs)) ≡ any t (edges cs)
    any-edges cs = ap (any t) (edges-moved cs) ∙ any-map t (each to) (edges cs) ∙ ap (λ f. any f (edges cs)) (λ z e. fair e z)

  pair-moved : (k : Link (Link Corner)) → same_pair (each (each to) k) ≡ same_pair k
  pair-moved k =
      ap₂ ◌||◌
      (ap₂ ◌&&◌ (changes-moved X k.from) (changes-moved X k.to))
      (ap₂ ◌&&◌ (changes-moved Y k.from) (changes-moved Y k.to))

  any-turns : (cs : List Corner) → any alike (turns (map to cs)) ≡ any alike (turns cs)
  any-turns cs =
      alike_links (map to cs)
      ∙ ap (λ es. any same_pair (around es)) (edges-moved cs)
      ∙ ap (any same_pair) (around-map (each to) (edges cs))
      ∙ any-map same_pair (each (each to)) (around (edges cs))
      ∙ ap (λ f. any f (around (edges cs))) (λ z k. pair-moved k z)
      ∙ sym (alike_links cs)

  slanted-moved : (cs : List Corner) → slanted (map to cs) ≡ slanted cs
  unfolding slanted both
  slanted-moved cs = any-edges both (λ e. ap₂ ◌&&◌ (changes-moved X e) (changes-moved Y e)) cs

  unturned-moved : (cs : List Corner) → unturned (map to cs) ≡ unturned cs
  unfolding unturned neither
  unturned-moved cs =
      ap₂ ◌||◌ (any-edges neither (λ e. ap₂ (λ a b. not a && not b) (changes-moved X e) (changes-moved Y e)) cs) (any-turns cs)

  length-shifted : (rs : List (List Corner)) → sum_of length (shifted dx dy rs) ≡ sum_of length rs
  unfolding sum_of
  length-shifted [] = refl
  length-shifted (r ∷ rs) = ap₂ ◌+◌ (length-map r to) (length-shifted rs)

  bad_shifted : (rs : List (List Corner)) → bad_rings (shifted dx dy rs) ≡ bad_rings rs
  unfolding bad_rings
  bad_shifted rs =
      rw (
        length-map rs (map to),
        length-shifted rs,
        any-map (λ r. bad_length (length r)) (map to) rs ∙ ap (λ f. any f rs) (λ z r. bad_length (length-map r to z)),
      )

  ring_test : (t : List Corner → Bool) → ((cs : List Corner) → t (map to cs) ≡ t cs) → (rs : List (List Corner))
      → any t (rings (of_rings (shifted dx dy rs))) ≡ any t (rings (of_rings rs))
  ring_test t h rs =
      ap (any t) (rings-back (shifted dx dy rs))
      ∙ any-map t (map to) rs
      ∙ ap (λ f. any f rs) (λ z cs. h cs z)
      ∙ sym (ap (any t) (rings-back rs))

  pub fault-shifted : (rs : List (List Corner)) → fault (of_rings (shifted dx dy rs)) ≡ fault (of_rings rs)
  unfolding fault
  fault-shifted rs =
      rw (
        bad_rings_lem (shifted dx dy rs) ∙ bad_shifted rs ∙ sym (bad_rings_lem rs),
        ring_test slanted slanted-moved rs,
        ring_test unturned unturned-moved rs,
      )

  pub places-shifted : (a : Axis) (rs : List (List Corner))
      → map (coordinate a) (join (λ r. r) (shifted dx dy rs)) ≡ map (λ v. v + by a) (map (coordinate a) (join (λ r. r) rs))
  unfolding join
  places-shifted a [] = refl
  places-shifted a (r ∷ rs) =
      map-append (coordinate a) (map to r) (join (λ r. r) (shifted dx dy rs))
      ∙ ap₂ ◌++◌ (ring r) (places-shifted a rs)
      ∙ sym (map-append (λ v. v + by a) (map (coordinate a) r) (map (coordinate a) (join (λ r. r) rs)))
      ∙ ap (map (λ v. v + by a)) (sym (map-append (coordinate a) r (join (λ r. r) rs)))
    where
      ring : (r : List Corner) → map (coordinate a) (map to r) ≡ map (λ v. v + by a) (map (coordinate a) r)
      ring [] = refl
      ring (c ∷ r) = ap₂ ◌∷◌ (coordinate-moved a c) (ring r)

  edges-shifted : (rs : List (List Corner)) → join edges (shifted dx dy rs) ≡ map (each to) (join edges rs)
  unfolding join
  edges-shifted [] = refl
  edges-shifted (r ∷ rs) = ap₂ ◌++◌ (edges-moved r) (edges-shifted rs) ∙ sym (map-append (each to) (edges r) (join edges rs))

  moved_wall : Wall → Wall
  moved_wall w = record { x = w.x + dx; lo = w.lo + dy; hi = w.hi + dy }

  wall-moved : (e : Link Corner) → wall (each to e) ≡ map moved_wall (wall e)
  unfolding wall moved_wall
  wall-moved e = rw (changes-moved X e) (go (changes X e))
    where
      low : (a b : ℕ) → min (a + dy) (b + dy) ≡ min a b + dy
      low a b = omega arith

      high : (a b : ℕ) → max (a + dy) (b + dy) ≡ max a b + dy
      high a b = omega arith

      go : (t : Bool)
          → cond t [] (record { x = e.to.x + dx; lo = min (e.from.y + dy) (e.to.y + dy); hi = max (e.from.y + dy) (e.to.y + dy) } ∷ [])
          ≡ map moved_wall (cond t [] (record { x = e.to.x; lo = min e.from.y e.to.y; hi = max e.from.y e.to.y } ∷ []))
      go true = refl
      go false = λ z. record { x = e.to.x + dx; lo = low e.from.y e.to.y z; hi = high e.from.y e.to.y z } ∷ []

  covers-moved : (x lo hi : ℕ) (w : Wall) → covers (x + dx) (lo + dy) (hi + dy) (moved_wall w) ≡ covers x lo hi w
  unfolding covers moved_wall
  covers-moved x lo hi w = rw (leb_moved w.x x dx, leb_moved w.lo lo dy, leb_moved hi w.hi dy)

  count-shifted : (x lo hi : ℕ) (rs : List (List Corner))
      → count (covers (x + dx) (lo + dy) (hi + dy)) (walls (join edges (shifted dx dy rs))) ≡ count (covers x lo hi) (walls (join edges rs))
  unfolding count walls
  count-shifted x lo hi rs =
      sum_of-join (λ w. only (covers (x + dx) (lo + dy) (hi + dy) w) 1) wall (join edges (shifted dx dy rs))
      ∙ ap (sum_of (λ e. sum_of (λ w. only (covers (x + dx) (lo + dy) (hi + dy) w) 1) (wall e))) (edges-shifted rs)
      ∙ sum_of-map (λ e. sum_of (λ w. only (covers (x + dx) (lo + dy) (hi + dy) w) 1) (wall e)) (each to) (join edges rs)
      ∙ sum_of-same
      (λ e. sum_of (λ w. only (covers (x + dx) (lo + dy) (hi + dy) w) 1) (wall (each to e)))
      (λ e. sum_of (λ w. only (covers x lo hi w) 1) (wall e))
      (join edges rs)
      (All-all each-wall (join edges rs))
      ∙ sym (sum_of-join (λ w. only (covers x lo hi w) 1) wall (join edges rs))
    where
      each-wall : (e : Link Corner)
          → sum_of (λ w. only (covers (x + dx) (lo + dy) (hi + dy) w) 1) (wall (each to e)) ≡ sum_of (λ w. only (covers x lo hi w) 1) (wall e)
      each-wall e =
          ap (sum_of (λ w. only (covers (x + dx) (lo + dy) (hi + dy) w) 1)) (wall-moved e)
          ∙ sum_of-map (λ w. only (covers (x + dx) (lo + dy) (hi + dy) w) 1) moved_wall (wall e)
          ∙ ap (λ f. sum_of f (wall e)) (λ z w. only (covers-moved x lo hi w z) 1)

  pub within-shifted : (x lo hi : ℕ) (rs : List (List Corner))
      → within (walls (join edges (shifted dx dy rs))) (x + dx) (lo + dy) (hi + dy) ≡ within (walls (join edges rs)) x lo hi
  unfolding within
  within-shifted x lo hi rs = ap odd (count-shifted x lo hi rs)
