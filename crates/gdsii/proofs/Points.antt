-- Laws of the points of a boundary: how they lie in the bytes, and the ways of the loops over them. Assumes nothing.
--
--   few_bad, some_bad               == 2, one test after the other
--   raise-low, raise-high           == a coordinate raised, from 0 on and below 0
--   place-x, place-y                == the places of a point, by its two words
--   points-more, points_none        == points in a row, by the first
--   length-points, take-points, last-points == how many they are, the first of them, the last
--   lowest-more, lowest-none, highest-more, highest-none == the lowest and the highest, one point more
--   lowest-first, lowest-next, highest-first, highest-next == the same, point by point
--   lowest_start, lowest-all, highest-start, highest-all == no point is lower, or higher
--   unclosed-points, unclosed-same, unclosed-other == 17, by the first point and the last
--   broad-points                    == 18, by the lowest and the highest place
--   shift-told                      == the shift as a signed number of 32 bits is read back as itself
--   moved-points, moved_more        == the corners moved, by the first
use Prim.Native.Nat.{ℕ, zero, suc, ◌+◌, ◌*◌, ◌-◌, ◌<◌, ◌≤◌, min, max}
use mathlib.Core.Path.{◌≡◌, ◌∙◌, refl, sym, ap, ap₂}
use mathlib.Core.List.{List, [], ◌∷◌}
use mathlib.Core.Bool.{Bool, true, false, not, ◌&&◌, ◌||◌}
use native.Mathlib.Omega.{arith}
use lib.Dec.{ltb, eqb}
use lib.ListN.{length, take, set}
use lib.Seq.{sets}
use lib.IntN.{ℤ}
use mir.Syntax.{w32}
use mir.Val.{SFits, to_z, of_z}
use mir.ValLaws.{to_z-of_z}
use borrow.Author.Tests.{lt-ltb, le-ltb}
use Rattle.sum.specs.Sum.{All}
use Rattle.figure.specs.declared.Axis.{Axis}
use Rattle.figure.specs.declared.Axis.TheVariants.{X, Y}
use Rattle.figure.specs.Corners.{last}
use Rattle.figure.specs.Figure.{least_corners, most_corners, most_place, bad_length}
use Rattle.gdsii.specs.declared.stream.Run.{Run}
use Rattle.gdsii.proofs.Shift.{low_narrow}
use Rattle.gdsii.specs.Boundary.{half, word_at, raise, Point, along, point_at, points_from, points, lowest_from, highest_from, lowest, highest, apart, unclosed, broad, numbers_of, moved, shift, signed}

pub few_bad : (n : ℕ) → n < least_corners → true ≡ bad_length n
unfolding bad_length
few_bad n h = simp lt-ltb

pub some_bad : (n : ℕ) → least_corners ≤ n → ltb most_corners n ≡ bad_length n
unfolding bad_length
some_bad n h = ap (λ (b : Bool). b || ltb most_corners n) (sym (le-ltb n least_corners h))

pub raise-low : (v : ℕ) → v < half → v + half ≡ raise v
unfolding raise
raise-low v h = simp lt-ltb

pub raise-high : (v : ℕ) → half ≤ v → v - half ≡ raise v
unfolding raise
raise-high v h = simp le-ltb

module _ (s : List ℕ) where
  pub place-x : (a : Axis) (p v w : ℕ) → a ≡ X → v ≡ word_at s p → w ≡ raise v → w ≡ along a (point_at s p)
  unfolding along point_at
  place-x a p v w z e f = f ∙ ap raise e ∙ sym (ap (λ b. along b (point_at s p)) z)

  pub place-y : (a : Axis) (p v w : ℕ) → a ≡ Y → v ≡ word_at s (p + 4) → w ≡ raise v → w ≡ along a (point_at s p)
  unfolding along point_at
  place-y a p v w z e f = f ∙ ap raise e ∙ sym (ap (λ b. along b (point_at s p)) z)

  pub points-more : (p n : ℕ) → 0 < n → points_from s p n ≡ point_at s p ∷ points_from s (p + 8) (n - 1)
  unfolding points_from
  points-more p zero h = absurd (omega arith)
  points-more p (suc n) h = let z : n ≡ suc n - 1 = omega arith in ap (λ m. point_at s p ∷ points_from s (p + 8) m) z

  pub points_none : (p n : ℕ) → n ≤ 0 → points_from s p n ≡ []
  unfolding points_from
  points_none p zero h = refl
  points_none p (suc n) h = absurd (omega arith)

  pub length-points : (n p : ℕ) → length (points_from s p n) ≡ n
  unfolding points_from
  length-points zero p = refl
  length-points (suc n) p = ap suc (length-points n (p + 8))

  pub take-points : (m n p : ℕ) → m ≤ n → take m (points_from s p n) ≡ points_from s p m
  unfolding points_from
  take-points zero n p h = refl
  take-points (suc m) zero p h = absurd (omega arith)
  take-points (suc m) (suc n) p h = ap (λ (l : List Point). point_at s p ∷ l) (take-points m n (p + 8) (omega arith))

  pub last-points : (n p : ℕ) → last (point_at s p) (points_from s (p + 8) n) ≡ point_at s (p + 8 * n)
  unfolding last points_from
  last-points zero p = let z : p ≡ p + 8 * 0 = omega arith in ap (point_at s) z
  last-points (suc n) p =
      let z : p + 8 + 8 * n ≡ p + 8 * suc n = omega arith in last-points n (p + 8) ∙ ap (point_at s) z

  module _ (a : Axis) (p n : ℕ) where
    pub lowest-more : (low v w : ℕ) → v ≡ along a (point_at s p) → w ≡ min low v → 0 < n
        → lowest_from a w (points_from s (p + 8) (n - 1)) ≡ lowest_from a low (points_from s p n)
    unfolding lowest_from
    lowest-more low v w e f h =
        ap (λ m. lowest_from a m (points_from s (p + 8) (n - 1))) (f ∙ ap (min low) e)
        ∙ sym (ap (lowest_from a low) (points-more p n h))

    pub lowest-none : (low : ℕ) → n ≤ 0 → low ≡ lowest_from a low (points_from s p n)
    unfolding lowest_from
    lowest-none low h = sym (ap (lowest_from a low) (points_none p n h))

    pub highest-more : (high v w : ℕ) → v ≡ along a (point_at s p) → w ≡ max high v → 0 < n
        → highest_from a w (points_from s (p + 8) (n - 1)) ≡ highest_from a high (points_from s p n)
    unfolding highest_from
    highest-more high v w e f h =
        ap (λ m. highest_from a m (points_from s (p + 8) (n - 1))) (f ∙ ap (max high) e)
        ∙ sym (ap (highest_from a high) (points-more p n h))

    pub highest-none : (high : ℕ) → n ≤ 0 → high ≡ highest_from a high (points_from s p n)
    unfolding highest_from
    highest-none high h = sym (ap (highest_from a high) (points_none p n h))

  -- the same, point i from a place on
  at-first : (p : ℕ) → p + 8 * 0 ≡ p
  at-first p = omega arith

  at_next : (p i : ℕ) → p + 8 * (i + 1) ≡ p + 8 * i + 8
  at_next p i = omega arith

  fewer : (n i : ℕ) → n - (i + 1) ≡ n - i - 1
  fewer n i = omega arith

  all_left : (n : ℕ) → n - 0 ≡ n
  all_left n = omega arith

  module _ (a : Axis) (p n : ℕ) where
    pub lowest-first : (low : ℕ) → lowest_from a low (points_from s (p + 8 * 0) (n - 0)) ≡ lowest_from a low (points_from s p n)
    lowest-first low = ap₂ (λ q m. lowest_from a low (points_from s q m)) (at-first p) (all_left n)

    pub highest-first : (high : ℕ) → highest_from a high (points_from s (p + 8 * 0) (n - 0)) ≡ highest_from a high (points_from s p n)
    highest-first high = ap₂ (λ q m. highest_from a high (points_from s q m)) (at-first p) (all_left n)

    module _ (i : ℕ) where
      pub lowest-next : (low v w : ℕ) → v ≡ along a (point_at s (p + 8 * i)) → w ≡ min low v → i < n
          → lowest_from a w (points_from s (p + 8 * (i + 1)) (n - (i + 1))) ≡ lowest_from a low (points_from s (p + 8 * i) (n - i))
      lowest-next low v w e f h =
          ap₂ (λ q m. lowest_from a w (points_from s q m)) (at_next p i) (fewer n i) ∙ lowest-more a (p + 8 * i) (n - i) low v w e f (omega arith)

      pub highest-next : (high v w : ℕ) → v ≡ along a (point_at s (p + 8 * i)) → w ≡ max high v → i < n
          → highest_from a w (points_from s (p + 8 * (i + 1)) (n - (i + 1))) ≡ highest_from a high (points_from s (p + 8 * i) (n - i))
      highest-next high v w e f h =
          ap₂ (λ q m. highest_from a w (points_from s q m)) (at_next p i) (fewer n i) ∙ highest-more a (p + 8 * i) (n - i) high v w e f (omega arith)

  module _ (p n q : ℕ) (h : 0 < n) (z : q ≡ p + 8 * (n - 1)) where
    pub unclosed-points : unclosed (points_from s p n) ≡ apart (point_at s p) (point_at s q)
    unfolding unclosed
    unclosed-points =
        ap unclosed (points-more p n h) ∙ ap (apart (point_at s p)) (last-points (n - 1) p ∙ ap (point_at s) (sym z))

    module _ (x u y v : ℕ) (ex : x ≡ along X (point_at s p)) (eu : u ≡ along X (point_at s q)) (ey : y ≡ along Y (point_at s p)) (ev : v ≡ along Y (point_at s q)) where
      tested : not (eqb x u && eqb y v) ≡ unclosed (points_from s p n)
      unfolding apart along
      tested = ap₂ (λ (a b : Bool). not (a && b)) (ap₂ eqb ex eu) (ap₂ eqb ey ev) ∙ sym unclosed-points

      pub unclosed-same : eqb x u ≡ true → not (eqb y v) ≡ unclosed (points_from s p n)
      unclosed-same e = sym (ap (λ (a : Bool). not (a && eqb y v)) e) ∙ tested

      pub unclosed-other : eqb x u ≡ false → true ≡ unclosed (points_from s p n)
      unclosed-other e = sym (ap (λ (a : Bool). not (a && eqb y v)) e) ∙ tested

  module _ (run : Run) (a : Axis) (low high : ℕ) where
    pub broad-points : low ≡ lowest a (points s run) → high ≡ highest a (points s run) → ltb (low + most_place) high ≡ broad a (points s run)
    unfolding broad
    broad-points e f = ap₂ (λ u v. ltb (u + most_place) v) e f

  pub moved-points : (run : Run) → 1 ≤ run.count
      → moved (points s run) ≡ numbers_of (lowest X (points s run)) (lowest Y (points s run)) (points_from s run.first (run.count - 1))
  unfolding moved
  moved-points run h =
      ap (λ m. numbers_of (lowest X (points s run)) (lowest Y (points s run)) (take (m - 1) (points s run))) (length-points run.count run.first)
      ∙ ap (numbers_of (lowest X (points s run)) (lowest Y (points s run))) (take-points (run.count - 1) run.count run.first (omega arith))

  -- what is stored, and what is still to come
  pub moved_more : (x y p n to u v : ℕ) (l : List ℕ) → u ≡ along X (point_at s p) → v ≡ along Y (point_at s p) → 0 < n
      → sets (set (set l to (u - x)) (suc to) (v - y)) (suc (suc to)) (numbers_of x y (points_from s (p + 8) (n - 1)))
      ≡ sets l to (numbers_of x y (points_from s p n))
  unfolding numbers_of along
  moved_more x y p n to u v l e f h =
      ap₂ (λ a b. sets l to ((a - x) ∷ (b - y) ∷ numbers_of x y (points_from s (p + 8) (n - 1)))) e f
      ∙ sym (ap (λ ps. sets l to (numbers_of x y ps)) (points-more p n h))

module _ (a : Axis) where
  pub lowest_start : (ps : List Point) (low : ℕ) → lowest_from a low ps ≤ low
  unfolding lowest_from
  lowest_start [] low = omega arith
  lowest_start (p ∷ ps) low = omega (arith, lowest_start ps (min low (along a p)))

  pub lowest-all : (ps : List Point) (low : ℕ) → All (λ p. lowest_from a low ps ≤ along a p) ps
  unfolding lowest_from
  lowest-all [] low = tt
  lowest-all (p ∷ ps) low = (omega (arith, lowest_start ps (min low (along a p))), lowest-all ps (min low (along a p)))

  pub highest-start : (ps : List Point) (high : ℕ) → high ≤ highest_from a high ps
  unfolding highest_from
  highest-start [] high = omega arith
  highest-start (p ∷ ps) high = omega (arith, highest-start ps (max high (along a p)))

  pub highest-all : (ps : List Point) (high : ℕ) → All (λ p. along a p ≤ highest_from a high ps) ps
  unfolding highest_from
  highest-all [] high = tt
  highest-all (p ∷ ps) high = (omega (arith, highest-start ps (max high (along a p))), highest-all ps (max high (along a p)))

-- the shift as a signed number of 32 bits is read back as itself
lowest-narrow : (a : Axis) (ps : List Point) → SFits w32 (signed (lowest a ps))
lowest-narrow a ps = low_narrow (lowest a ps) (omega (arith, lowest_start a ps 4294967295))

pub shift-told : (a : Axis) (ps : List Point) (z : ℤ) → z ≡ shift a ps → to_z w32 (of_z w32 z) ≡ shift a ps
shift-told a ps z e = ap (λ (y : ℤ). to_z w32 (of_z w32 y)) e ∙ to_z-of_z w32 (shift a ps) (lowest-narrow a _)
