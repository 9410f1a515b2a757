-- The ring moved to 0, point by point, over the integers. Assumes nothing.
--
--   bytes_word       == four bytes are worth less than 2^32
--   place-signed     == the signed place of a point along an axis is its coordinate in the bytes
--   lowest-below, highest-above == no point is lower, or higher
--   lowest-at, highest-at == and one point is as low, or as high
--   numbers-x, numbers-y == the numbers of a corner
--   shift_back       == shift plus corner is the point, in x and in y, for each corner
--   moved-low        == some corner has x 0, and some y 0
--   open_told        == 17, one way or the other: the last point is unlike the first, or it is not
--   broad_exactly    == 18 along an axis: a point is more than 65,535 above another
--   moved-one        == the corners and the shift are the only ones that give back each point and are at 0
use Prim.Native.Nat.{ℕ, zero, suc, ◌+◌, ◌*◌, ◌-◌, ◌/◌, ◌<◌, ◌≤◌, min, max}
use mathlib.Core.Path.{◌≡◌, ◌∙◌, refl, sym, ap, ap₂, subst}
use mathlib.Core.Logic.{◌⊎◌, ◌↔◌, inl, inr}
use mathlib.Core.List.{List}
use mathlib.Core.Bool.{Bool, true, false, cond, not, ◌&&◌}
use native.Mathlib.Omega.{arith}
use lib.Dec.{ltb, eqb}
use lib.ListN.{length, get_or}
use lib.Seq.{ext_get_or}
use lib.IntN.{ℤ, pos, sub_ℕ, neg_ℤ, ◌+ℤ◌, +ℤ_assoc, +ℤ_comm, +ℤ_idr, +ℤ-neg_ℤ_cancel}
use borrow.Author.Tests.{ltb-true, lt-ltb, eqb-true, eqb-false}
use Rattle.sum.proofs.Sum.{le-or}
use Rattle.number.specs.Faults.{AllBytes}
use Rattle.figure.specs.declared.Axis.{Axis}
use Rattle.figure.specs.declared.Axis.TheVariants.{X, Y}
use Rattle.gdsii.specs.declared.stream.Run.{Run}
use Rattle.gdsii.specs.Record.{pair_at}
use Rattle.gdsii.specs.Boundary.{half, word_at, raise, signed, along, point_at, points_from, points, lowest_from, highest_from, lowest, highest, apart, unclosed, broad, numbers_of, moved, shift}
use Rattle.gdsii.specs.Faults.{word_of, coordinate, x_of, y_of, Open, Beyond, Moved}
use Rattle.gdsii.proofs.Shift.{sub_plus, sub_same, signed-raise}
use Rattle.gdsii.proofs.Points.{unclosed-points, moved-points}

-- A coordinate

word_same : (s : List ℕ) (p : ℕ) → word_at s p ≡ word_of s p
unfolding word_at word_of pair_at
word_same s p =
    let e : p + 2 + 1 ≡ p + 3 = omega arith in
    let f : get_or s (p + 2 + 1) 0 ≡ get_or s (p + 3) 0 = ap (λ i. get_or s i 0) e in
    omega (arith, f)

pub coordinate-signed : (s : List ℕ) (p : ℕ) → signed (raise (word_at s p)) ≡ coordinate s p
unfolding coordinate
coordinate-signed s p =
    signed-raise (word_at s p) ∙ ap (λ v. cond (ltb v 2147483648) (pos v) (sub_ℕ v 4294967296)) (word_same s p)

-- the coordinate of point i along an axis, in the bytes
unfoldable pub axis_of : List ℕ → Axis → ℕ → ℕ → ℤ
axis_of s X first i = x_of s first i
axis_of s Y first i = y_of s first i

-- its raised place
abbrev pub raised_at : List ℕ → Axis → ℕ → ℕ → ℕ
raised_at s a first i = along a (point_at s (first + 8 * i))

pub place-signed : (s : List ℕ) (a : Axis) (first i : ℕ) → signed (raised_at s a first i) ≡ axis_of s a first i
unfolding axis_of along point_at
place-signed s X first i = coordinate-signed s (first + 8 * i)
place-signed s Y first i = coordinate-signed s (first + 8 * i + 4)

raise-most : (v : ℕ) → v < 4294967296 → raise v ≤ 4294967295
unfolding raise
raise-most v h = go (ltb v half) refl
  where
    go : (t : Bool) → ltb v half ≡ t → cond t (v + half) (v - half) ≤ 4294967295
    go true e = omega (arith, ltb-true v half e)
    go false e = omega arith

pub bytes_word : (s : List ℕ) (p : ℕ) → AllBytes s → word_at s p < 4294967296
unfolding word_at pair_at
bytes_word s p h = omega (arith, h p, h (p + 1), h (p + 2), h (p + 2 + 1))

place-most : (s : List ℕ) (a : Axis) (p : ℕ) → AllBytes s → along a (point_at s p) ≤ 4294967295
unfolding along point_at
place-most s X p h = raise-most (word_at s p) (bytes_word s p h)
place-most s Y p h = raise-most (word_at s (p + 4)) (bytes_word s (p + 4) h)

-- The lowest and the highest of points in a row

module _ (s : List ℕ) (a : Axis) where
  raised-next : (p i : ℕ) → raised_at s a (p + 8) i ≡ raised_at s a p (suc i)
  raised-next p i = let e : p + 8 + 8 * i ≡ p + 8 * suc i = omega arith in ap (λ q. along a (point_at s q)) e

  raised-first : (p : ℕ) → along a (point_at s p) ≡ raised_at s a p 0
  raised-first p = let e : p ≡ p + 8 * 0 = omega arith in ap (λ q. along a (point_at s q)) e

  lowest_start : (n p low : ℕ) → lowest_from a low (points_from s p n) ≤ low
  unfolding lowest_from points_from
  lowest_start zero p low = omega arith
  lowest_start (suc n) p low = omega (arith, lowest_start n (p + 8) (min low (along a (point_at s p))))

  highest-start : (n p high : ℕ) → high ≤ highest_from a high (points_from s p n)
  unfolding highest_from points_from
  highest-start zero p high = omega arith
  highest-start (suc n) p high = omega (arith, highest-start n (p + 8) (max high (along a (point_at s p))))

  pub lowest-below : (n p low i : ℕ) → i < n → lowest_from a low (points_from s p n) ≤ raised_at s a p i
  unfolding lowest_from points_from
  lowest-below zero p low i h = absurd (omega arith)
  lowest-below (suc n) p low zero h =
      omega (arith, lowest_start n (p + 8) (min low (along a (point_at s p))), raised-first p)
  lowest-below (suc n) p low (suc i) h =
      omega (arith, lowest-below n (p + 8) (min low (along a (point_at s p))) i (omega arith), raised-next p i)

  pub highest-above : (n p high i : ℕ) → i < n → raised_at s a p i ≤ highest_from a high (points_from s p n)
  unfolding highest_from points_from
  highest-above zero p high i h = absurd (omega arith)
  highest-above (suc n) p high zero h =
      omega (arith, highest-start n (p + 8) (max high (along a (point_at s p))), raised-first p)
  highest-above (suc n) p high (suc i) h =
      omega (arith, highest-above n (p + 8) (max high (along a (point_at s p))) i (omega arith), raised-next p i)

  abbrev Reached : ℕ → ℕ → ℕ → Type 0
  Reached n p m = (i : ℕ) × (i < n) × (m ≡ raised_at s a p i)

  -- one step more
  reached-next : (n p m : ℕ) → Reached n (p + 8) m → Reached (suc n) p m
  reached-next n p m (i, h, e) = (suc i, omega arith, e ∙ raised-next p i)

  lowest-reached : (n p low : ℕ) → Reached n p (lowest_from a low (points_from s p n)) ⊎ (lowest_from a low (points_from s p n) ≡ low)
  unfolding lowest_from points_from
  lowest-reached zero p low = inr refl
  lowest-reached (suc n) p low = go (lowest-reached n (p + 8) (min low (along a (point_at s p)))) (le-or low (along a (point_at s p)))
    where
      go : Reached n (p + 8) (lowest_from a (min low (along a (point_at s p))) (points_from s (p + 8) n))
          ⊎ (lowest_from a (min low (along a (point_at s p))) (points_from s (p + 8) n) ≡ min low (along a (point_at s p)))
          → (low ≤ along a (point_at s p)) ⊎ (along a (point_at s p) < low)
          → Reached (suc n) p (lowest_from a (min low (along a (point_at s p))) (points_from s (p + 8) n))
          ⊎ (lowest_from a (min low (along a (point_at s p))) (points_from s (p + 8) n) ≡ low)
      go (inl r) k = inl (reached-next n p _ r)
      go (inr e) (inl h) = inr (omega (arith, e))
      go (inr e) (inr h) = inl (0, omega arith, omega (arith, e, raised-first p))

  highest-reached : (n p high : ℕ) → Reached n p (highest_from a high (points_from s p n)) ⊎ (highest_from a high (points_from s p n) ≡ high)
  unfolding highest_from points_from
  highest-reached zero p high = inr refl
  highest-reached (suc n) p high = go (highest-reached n (p + 8) (max high (along a (point_at s p)))) (le-or (along a (point_at s p)) high)
    where
      go : Reached n (p + 8) (highest_from a (max high (along a (point_at s p))) (points_from s (p + 8) n))
          ⊎ (highest_from a (max high (along a (point_at s p))) (points_from s (p + 8) n) ≡ max high (along a (point_at s p)))
          → (along a (point_at s p) ≤ high) ⊎ (high < along a (point_at s p))
          → Reached (suc n) p (highest_from a (max high (along a (point_at s p))) (points_from s (p + 8) n))
          ⊎ (highest_from a (max high (along a (point_at s p))) (points_from s (p + 8) n) ≡ high)
      go (inl r) k = inl (reached-next n p _ r)
      go (inr e) (inl h) = inr (omega (arith, e))
      go (inr e) (inr h) = inl (0, omega arith, omega (arith, e, raised-first p))

  pub lowest-at : (n p : ℕ) → AllBytes s → 1 ≤ n → Reached n p (lowest a (points_from s p n))
  lowest-at n p b h = go (lowest-reached n p 4294967295)
    where
      go : Reached n p (lowest a (points_from s p n)) ⊎ (lowest a (points_from s p n) ≡ 4294967295) → Reached n p (lowest a (points_from s p n))
      go (inl r) = r
      go (inr e) = (0, omega arith, omega (arith, e, lowest-below n p 4294967295 0 (omega arith), place-most s a (p + 8 * 0) b))

  pub highest-at : (n p : ℕ) → 1 ≤ n → Reached n p (highest a (points_from s p n))
  highest-at n p h = go (highest-reached n p 0)
    where
      go : Reached n p (highest a (points_from s p n)) ⊎ (highest a (points_from s p n) ≡ 0) → Reached n p (highest a (points_from s p n))
      go (inl r) = r
      go (inr e) = (0, omega arith, omega (arith, e, highest-above n p 0 0 (omega arith)))

  -- 18 along an axis
  pub broad_exactly : (run : Run) → AllBytes s → 1 ≤ run.count → (broad a (points s run) ≡ true) ↔ Beyond (axis_of s a run.first) run.count
  unfolding broad
  broad_exactly run b h = (there, back)
    where
      first : ℕ
      first = run.first

      there : ltb (lowest a (points s run) + 65535) (highest a (points s run)) ≡ true → Beyond (axis_of s a run.first) run.count
      there e =
          let k = ltb-true (lowest a (points s run) + 65535) (highest a (points s run)) e in
          let l = lowest-at run.count run.first b h in
          let m = highest-at run.count run.first h in
          let d = raised_at s a run.first m.0 - raised_at s a run.first l.0 in
          let z : raised_at s a run.first l.0 + d ≡ raised_at s a run.first m.0 = omega (arith, k, l.2, m.2) in (
            l.0,
            m.0,
            d,
            l.1,
            m.1,
            omega (arith, k, l.2, m.2),
            ap (λ (c : ℤ). c +ℤ pos d) (sym (place-signed s a run.first l.0))
                ∙ sub_plus (raised_at s a run.first l.0) half d
                ∙ ap (λ r. sub_ℕ r half) z
                ∙ place-signed s a run.first m.0,
          )

      back : Beyond (axis_of s a run.first) run.count → ltb (lowest a (points s run) + 65535) (highest a (points s run)) ≡ true
      back (i, j, d, hi, hj, hd, e) =
          let z = sub_same (raised_at s a run.first i + d) (raised_at s a run.first j) half
          (sym (sub_plus (raised_at s a run.first i) half d)
          ∙ ap (λ (c : ℤ). c +ℤ pos d) (place-signed s a run.first i)
          ∙ e
          ∙ sym (place-signed s a run.first j)) in
          lt-ltb (lowest a (points s run) + 65535) (highest a (points s run))
          (omega (arith, z, lowest-below run.count run.first 4294967295 i hi, highest-above run.count run.first 0 j hj))

-- The numbers of the corners

module _ (s : List ℕ) (x y : ℕ) where
  pub numbers-x : (n p i : ℕ) → i < n → get_or (numbers_of x y (points_from s p n)) (2 * i + 0) 0 ≡ raised_at s X p i - x
  unfolding numbers_of points_from along
  numbers-x zero p i h = absurd (omega arith)
  numbers-x (suc n) p zero h = ap (λ q. q - x) (raised-first s X p)
  numbers-x (suc n) p (suc i) h =
      let e : 2 * suc i + 0 ≡ suc (suc (2 * i + 0)) = omega arith in
      ap (λ k. get_or (numbers_of x y (points_from s p (suc n))) k 0) e
      ∙ numbers-x n (p + 8) i (omega arith)
      ∙ ap (λ q. q - x) (raised-next s X p i)

  pub numbers-y : (n p i : ℕ) → i < n → get_or (numbers_of x y (points_from s p n)) (2 * i + 1) 0 ≡ raised_at s Y p i - y
  unfolding numbers_of points_from along
  numbers-y zero p i h = absurd (omega arith)
  numbers-y (suc n) p zero h = ap (λ q. q - y) (raised-first s Y p)
  numbers-y (suc n) p (suc i) h =
      let e : 2 * suc i + 1 ≡ suc (suc (2 * i + 1)) = omega arith in
      ap (λ k. get_or (numbers_of x y (points_from s p (suc n))) k 0) e
      ∙ numbers-y n (p + 8) i (omega arith)
      ∙ ap (λ q. q - y) (raised-next s Y p i)

-- where the number along an axis stands among those of its corner
abbrev pub slot : Axis → ℕ
slot X = 0
slot Y = 1

module _ (s : List ℕ) (run : Run) where
  pub moved-number : (a : Axis) (i : ℕ) → i < run.count - 1
      → get_or (moved (points s run)) (2 * i + slot a) 0 ≡ raised_at s a run.first i - lowest a (points s run)
  moved-number X i h =
      ap (λ (l : List ℕ). get_or l (2 * i + 0) 0) (moved-points s run (omega arith))
      ∙ numbers-x s (lowest X (points s run)) (lowest Y (points s run)) (run.count - 1) run.first i h
  moved-number Y i h =
      ap (λ (l : List ℕ). get_or l (2 * i + 1) 0) (moved-points s run (omega arith))
      ∙ numbers-y s (lowest X (points s run)) (lowest Y (points s run)) (run.count - 1) run.first i h

  pub shift_back : (a : Axis) (i : ℕ) → i < run.count - 1
      → shift a (points s run) +ℤ pos (get_or (moved (points s run)) (2 * i + slot a) 0) ≡ axis_of s a run.first i
  shift_back a i h =
      let r = raised_at s a run.first i in
      let low = lowest a (points s run) in
      let z : low + (r - low) ≡ r = omega (arith, lowest-below s a run.count run.first 4294967295 i (omega arith)) in
      ap (λ n. signed low +ℤ pos n) (moved-number a i h)
      ∙ sub_plus low half (r - low)
      ∙ ap (λ q. sub_ℕ q half) z
      ∙ place-signed s a run.first i

  -- the first point and the last, by their raised places
  abbrev pub Alike : Axis → Type 0
  Alike a = raised_at s a run.first 0 ≡ raised_at s a run.first (run.count - 1)

  alike-signed : (a : Axis) → Alike a → axis_of s a run.first 0 ≡ axis_of s a run.first (run.count - 1)
  alike-signed a e =
      sym (place-signed s a run.first 0) ∙ ap (λ q. sub_ℕ q half) e ∙ place-signed s a run.first (run.count - 1)

  signed-alike : (a : Axis) → axis_of s a run.first 0 ≡ axis_of s a run.first (run.count - 1) → Alike a
  signed-alike a e =
      sub_same _ _ half (place-signed s a run.first 0 ∙ e ∙ sym (place-signed s a run.first (run.count - 1)))

  -- 17, one way or the other
  abbrev pub OpenTold : Type 0
  OpenTold =
      ((unclosed (points s run) ≡ true) × Open s run.first run.count)
      ⊎ ((unclosed (points s run) ≡ false) × (Open s run.first run.count → ⊥) × Alike X × Alike Y)

  pub open_told : 1 ≤ run.count → OpenTold
  unfolding Open along
  open_told h =
      go (eqb (raised_at s X run.first 0) (raised_at s X run.first (run.count - 1))) refl
      (eqb (raised_at s Y run.first 0) (raised_at s Y run.first (run.count - 1))) refl
    where
      tested : unclosed (points s run)
          ≡ not (eqb (raised_at s X run.first 0) (raised_at s X run.first (run.count - 1)) && eqb (raised_at s Y run.first 0) (raised_at s Y run.first (run.count - 1)))
      tested =
          unclosed-points s run.first run.count (run.first + 8 * (run.count - 1)) (omega arith) refl
          ∙ (unfold apart in
          ap₂ (λ m n. not (eqb m (raised_at s X run.first (run.count - 1)) && eqb n (raised_at s Y run.first (run.count - 1))))
          (raised-first s X run.first) (raised-first s Y run.first))

      go : (p : Bool) → eqb (raised_at s X run.first 0) (raised_at s X run.first (run.count - 1)) ≡ p
          → (q : Bool) → eqb (raised_at s Y run.first 0) (raised_at s Y run.first (run.count - 1)) ≡ q
          → ((unclosed (points s run) ≡ true)
          × ((x_of s run.first 0 ≡ x_of s run.first (run.count - 1) → ⊥) ⊎ (y_of s run.first 0 ≡ y_of s run.first (run.count - 1) → ⊥)))
          ⊎ ((unclosed (points s run) ≡ false)
          × ((x_of s run.first 0 ≡ x_of s run.first (run.count - 1) → ⊥) ⊎ (y_of s run.first 0 ≡ y_of s run.first (run.count - 1) → ⊥) → ⊥)
          × Alike X × Alike Y)
      go true e true f =
          let x = eqb-true _ _ e in
          let y = eqb-true _ _ f in
          inr (tested ∙ ap₂ (λ (a b : Bool). not (a && b)) e f, none x y, x, y)
        where
          none : Alike X → Alike Y
              → (x_of s run.first 0 ≡ x_of s run.first (run.count - 1) → ⊥) ⊎ (y_of s run.first 0 ≡ y_of s run.first (run.count - 1) → ⊥) → ⊥
          none x y (inl d) = d (unfold axis_of in alike-signed X x)
          none x y (inr d) = d (unfold axis_of in alike-signed Y y)
      go false e q f =
          inl (
            tested ∙ ap (λ (a : Bool). not (a && eqb (raised_at s Y run.first 0) (raised_at s Y run.first (run.count - 1)))) e,
            inl (λ z. eqb-false _ _ e (signed-alike X (unfold axis_of in z))),
          )
      go true e false f =
          inl (tested ∙ ap₂ (λ (a b : Bool). not (a && b)) e f, inr (λ z. eqb-false _ _ f (signed-alike Y (unfold axis_of in z))))

  pub moved-low : (a : Axis) → AllBytes s → 2 ≤ run.count → Alike a
      → (i : ℕ) × (i < run.count - 1) × (get_or (moved (points s run)) (2 * i + slot a) 0 ≡ 0)
  moved-low a b h same = go (lowest-at s a run.count run.first b (omega arith))
    where
      zero-at : (i : ℕ) → i < run.count - 1 → lowest a (points s run) ≡ raised_at s a run.first i
          → get_or (moved (points s run)) (2 * i + slot a) 0 ≡ 0
      zero-at i k e = moved-number a i k ∙ (let z : raised_at s a run.first i - lowest a (points s run) ≡ 0 = omega (arith, e) in z)

      go : (i : ℕ) × (i < run.count) × (lowest a (points s run) ≡ raised_at s a run.first i)
          → (i : ℕ) × (i < run.count - 1) × (get_or (moved (points s run)) (2 * i + slot a) 0 ≡ 0)
      go (i, k, e) = pick (le-or (run.count - 1) i)
        where
          pick : (run.count - 1 ≤ i) ⊎ (i < run.count - 1) → (i : ℕ) × (i < run.count - 1) × (get_or (moved (points s run)) (2 * i + slot a) 0 ≡ 0)
          pick (inr m) = (i, m, zero-at i m e)
          pick (inl m) =
              let z : i ≡ run.count - 1 = omega arith in
              (0, omega arith, zero-at 0 (omega arith) (e ∙ ap (raised_at s a run.first) z ∙ sym same))

  pub moved_so : (a : Axis) → AllBytes s → 2 ≤ run.count → Alike a
      → Moved (axis_of s a run.first) (run.count - 1) (shift a (points s run)) (slot a) (moved (points s run))
  moved_so a b h same = record { back = shift_back a; low = moved-low a b h same }

-- What gives back each point and is at 0 is one thing

cancel : (z : ℤ) (a b : ℕ) → z +ℤ pos a ≡ z +ℤ pos b → a ≡ b
cancel z a b e =
    let f : pos a ≡ pos b =
    sym (+ℤ-neg_ℤ_cancel (pos a) z)
    ∙ ap (λ (u : ℤ). u +ℤ neg_ℤ z) (+ℤ_comm (pos a) z ∙ e ∙ +ℤ_comm z (pos b))
    ∙ +ℤ-neg_ℤ_cancel (pos b) z in
    let g : a ≡ b = cc in
    g

module _ (c : ℕ → ℤ) (n : ℕ) (z w : ℤ) (k : ℕ) (l m : List ℕ) (f : Moved c n z k l) (g : Moved c n w k m) where
  pub shift_one : z ≡ w
  shift_one =
      let i = f.low in
      let j = g.low in
      -- z is a coordinate, so w plus a number; and the other way round
      let p : w +ℤ pos (get_or m (2 * i.0 + k) 0) ≡ z =
      g.back i.0 i.1 ∙ sym (f.back i.0 i.1) ∙ ap (λ v. z +ℤ pos v) i.2 ∙ +ℤ_idr z in
      let q : z +ℤ pos (get_or l (2 * j.0 + k) 0) ≡ w =
      f.back j.0 j.1 ∙ sym (g.back j.0 j.1) ∙ ap (λ v. w +ℤ pos v) j.2 ∙ +ℤ_idr w in
      let r : w +ℤ pos (get_or m (2 * i.0 + k) 0 + get_or l (2 * j.0 + k) 0) ≡ w +ℤ pos 0 =
      sym (+ℤ_assoc w (pos (get_or m (2 * i.0 + k) 0)) (pos (get_or l (2 * j.0 + k) 0)))
      ∙ ap (λ (v : ℤ). v +ℤ pos (get_or l (2 * j.0 + k) 0)) p
      ∙ q
      ∙ sym (+ℤ_idr w) in
      let t = cancel w (get_or m (2 * i.0 + k) 0 + get_or l (2 * j.0 + k) 0) 0 r in
      let u : get_or m (2 * i.0 + k) 0 ≡ 0 = omega (arith, t) in
      sym p ∙ ap (λ v. w +ℤ pos v) u ∙ +ℤ_idr w

  pub corner-one : (i : ℕ) → i < n → get_or l (2 * i + k) 0 ≡ get_or m (2 * i + k) 0
  corner-one i h =
      cancel z _ _ (f.back i h ∙ sym (g.back i h) ∙ ap (λ (v : ℤ). v +ℤ pos (get_or m (2 * i + k) 0)) (sym shift_one))

pub moved-one : (c d : ℕ → ℤ) (n : ℕ) (z w z' w' : ℤ) (l m : List ℕ) → length l ≡ 2 * n → length m ≡ 2 * n
    → Moved c n z 0 l → Moved d n w 1 l → Moved c n z' 0 m → Moved d n w' 1 m → l ≡ m
moved-one c d n z w z' w' l m a b p q r t =
    ext_get_or 0 l m (a ∙ sym b) (λ j h. each j (omega arith))
  where
    each : (j : ℕ) → j < 2 * n → get_or l j 0 ≡ get_or m j 0
    each j h = pick (le-or 1 (j - 2 * (j / 2)))
      where
        pick : (1 ≤ j - 2 * (j / 2)) ⊎ (j - 2 * (j / 2) < 1) → get_or l j 0 ≡ get_or m j 0
        pick (inl k) =
            let e : 2 * (j / 2) + 1 ≡ j = omega arith in
            subst (λ i. get_or l i 0 ≡ get_or m i 0) e (corner-one d n w w' 1 l m q t (j / 2) (omega arith))
        pick (inr k) =
            let e : 2 * (j / 2) + 0 ≡ j = omega arith in
            subst (λ i. get_or l i 0 ≡ get_or m i 0) e (corner-one c n z z' 0 l m p r (j / 2) (omega arith))
