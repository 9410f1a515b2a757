-- The union of two shots that can be joined has six corners, or four where both ends of the touching sides coincide.
--
--   six_or-four    == so it is, of any two shots with area that can be joined; counted at all grid points below any n past both shots
--   Place          == where a line lies to a run of squares: outside, at its low end, inside, at its high end
--   column         == the corners of two shots side by side stand on three lines
--   ends, middle   == how many stand on the outer lines at a height, and on the line between the shots
use Prim.Native.Nat.{ℕ, zero, suc, ◌+◌, ◌<◌, ◌≤◌}
use native.Mathlib.Omega.{arith}
use mathlib.Core.Path.{◌≡◌, refl, sym, ◌∙◌, ap, ap₂}
use mathlib.Core.Logic.{◌⊎◌, inl, inr}
use mathlib.Core.Bool.{Bool, true, false, ◌&&◌, ◌||◌, and-false, and_comm, or_comm, true≢false}
use lib.Dec.{ltb, leb, eqb}
use borrow.Author.Tests.{lt-ltb, le-ltb, lt-leb, le-leb, eq-eqb, ne_eqb, ltb-true, eqb-true, eqb-false}
use Rattle.sum.specs.Sum.{only, over}
use Rattle.sum.proofs.Sum.{le-or, over-same, over_add, over_zero, over_pick, over_swap, only-over}
use Rattle.shot.specs.Shot.{Shot, holds}
use Rattle.join.specs.Join.{touches, beside, below, can_join}
use Rattle.join.specs.Union.{union, before, turns, corners_at, corners}

-- ---- a run of squares from lo to hi, and the line x between the squares x - 1 and x
abbrev behind : ℕ → ℕ → ℕ → Bool
behind lo hi x = leb lo x && ltb x hi

abbrev ahead : ℕ → ℕ → ℕ → Bool
ahead lo hi x = before (behind lo hi) x

data Place (lo hi x : ℕ) : Type 0 where
  outside : ahead lo hi x ≡ false → behind lo hi x ≡ false → eqb x lo ≡ false → eqb x hi ≡ false → Place lo hi x
  low : x ≡ lo → ahead lo hi x ≡ false → behind lo hi x ≡ true → eqb x lo ≡ true → eqb x hi ≡ false → Place lo hi x
  inside : ahead lo hi x ≡ true → behind lo hi x ≡ true → eqb x lo ≡ false → eqb x hi ≡ false → Place lo hi x
  high : x ≡ hi → ahead lo hi x ≡ true → behind lo hi x ≡ false → eqb x lo ≡ false → eqb x hi ≡ true → Place lo hi x

behind_in : (lo hi x : ℕ) → lo ≤ x → x < hi → behind lo hi x ≡ true
behind_in lo hi x p q = ap₂ ◌&&◌ (le-leb lo x p) (lt-ltb x hi q)

behind-under : (lo hi x : ℕ) → x < lo → behind lo hi x ≡ false
behind-under lo hi x p = ap (λ b. b && ltb x hi) (lt-leb lo x p)

behind-past : (lo hi x : ℕ) → hi ≤ x → behind lo hi x ≡ false
behind-past lo hi x p = ap (λ b. leb lo x && b) (le-ltb x hi p) ∙ and-false (leb lo x)

ahead_in : (lo hi x : ℕ) → lo < x → x ≤ hi → ahead lo hi x ≡ true
ahead_in lo hi zero p q = absurd (omega arith)
ahead_in lo hi (suc x) p q = behind_in lo hi x (omega arith) (omega arith)

ahead-under : (lo hi x : ℕ) → x ≤ lo → ahead lo hi x ≡ false
ahead-under lo hi zero p = refl
ahead-under lo hi (suc x) p = behind-under lo hi x (omega arith)

ahead_past : (lo hi x : ℕ) → hi < x → ahead lo hi x ≡ false
ahead_past lo hi zero p = refl
ahead_past lo hi (suc x) p = behind-past lo hi x (omega arith)

place-by : (lo hi x : ℕ) → lo < hi → (lo ≤ x) ⊎ (x < lo) → (x ≤ lo) ⊎ (lo < x) → (hi ≤ x) ⊎ (x < hi) → (x ≤ hi) ⊎ (hi < x) → Place lo hi x
place-by lo hi x h (inr a) b c d = outside (ahead-under lo hi x (omega arith)) (behind-under lo hi x a) (ne_eqb x lo (λ z. omega arith)) (ne_eqb x hi (λ z. omega arith))
place-by lo hi x h (inl a) (inl b) c d = low (omega arith) (ahead-under lo hi x b) (behind_in lo hi x a (omega arith)) (eq-eqb x lo (omega arith)) (ne_eqb x hi (λ z. omega arith))
place-by lo hi x h (inl a) (inr b) (inr c) d = inside (ahead_in lo hi x b (omega arith)) (behind_in lo hi x a c) (ne_eqb x lo (λ z. omega arith)) (ne_eqb x hi (λ z. omega arith))
place-by lo hi x h (inl a) (inr b) (inl c) (inl d) = high (omega arith) (ahead_in lo hi x b d) (behind-past lo hi x c) (ne_eqb x lo (λ z. omega arith)) (eq-eqb x hi (omega arith))
place-by lo hi x h (inl a) (inr b) (inl c) (inr d) = outside (ahead_past lo hi x d) (behind-past lo hi x c) (ne_eqb x lo (λ z. omega arith)) (ne_eqb x hi (λ z. omega arith))

place : (lo hi x : ℕ) → lo < hi → Place lo hi x
place lo hi x h = place-by lo hi x h (le-or lo x) (le-or x lo) (le-or hi x) (le-or x hi)

-- ---- the four squares around a grid point
module _ (a b : Shot) where
  around : (x y : ℕ) → corners_at (union a b) x y
      ≡ turns (ahead a.xlow a.xhigh x && ahead a.ylow a.yhigh y || ahead b.xlow b.xhigh x && ahead b.ylow b.yhigh y)
      (behind a.xlow a.xhigh x && ahead a.ylow a.yhigh y || behind b.xlow b.xhigh x && ahead b.ylow b.yhigh y)
      (ahead a.xlow a.xhigh x && behind a.ylow a.yhigh y || ahead b.xlow b.xhigh x && behind b.ylow b.yhigh y)
      (behind a.xlow a.xhigh x && behind a.ylow a.yhigh y || behind b.xlow b.xhigh x && behind b.ylow b.yhigh y)
  unfolding corners_at union holds
  around zero zero = simp (and-false (behind a.xlow a.xhigh 0), and-false (behind b.xlow b.xhigh 0))
  around zero (suc y) = refl
  around (suc x) zero =
      simp (and-false (behind a.xlow a.xhigh x), and-false (behind b.xlow b.xhigh x), and-false (behind a.xlow a.xhigh (suc x)), and-false (behind b.xlow b.xhigh (suc x)))
  around (suc x) (suc y) = refl

-- ---- two shots side by side: a from xl to e and from al to ah, b from e to xh and from bl to bh
-- what stands at a height on the left line, on the right one, and between the shots
abbrev left : ℕ → ℕ → ℕ → ℕ
left lo hi y = turns false (ahead lo hi y) false (behind lo hi y)

abbrev right : ℕ → ℕ → ℕ → ℕ
right lo hi y = turns (ahead lo hi y) false (behind lo hi y) false

abbrev between : ℕ → ℕ → ℕ → ℕ → ℕ → ℕ
between al ah bl bh y = turns (ahead al ah y) (ahead bl bh y) (behind al ah y) (behind bl bh y)

-- four squares two by two: nothing turns
alike : (p q : Bool) → turns p p q q ≡ 0
alike true true = refl
alike true false = refl
alike false true = refl
alike false false = refl

or-none : (b : Bool) → (b || false) ≡ b
or-none true = refl
or-none false = refl

module _ (xl e xh al ah bl bh x y : ℕ) (hl : xl < e) (hr : e < xh) where
  abbrev laid : Bool → Bool → Bool → Bool → ℕ
  laid pa ra pb rb =
      turns (pa && ahead al ah y || pb && ahead bl bh y) (ra && ahead al ah y || rb && ahead bl bh y) (pa && behind al ah y || pb && behind bl bh y) (ra && behind al ah y || rb && behind bl bh y)

  abbrev lines : Bool → Bool → Bool → ℕ
  lines l m r = only l (left al ah y) + only m (between al ah bl bh y) + only r (right bl bh y)

  column-by : Place xl e x → Place e xh x → laid (ahead xl e x) (behind xl e x) (ahead e xh x) (behind e xh x) ≡ lines (eqb x xl) (eqb x e) (eqb x xh)
  column-by (outside a b c d) (outside f g h k) = simp (a, b, f, g, c, d, k)
  column-by (outside a b c d) (low w f g h k) = absurd (true≢false (sym h ∙ d))
  column-by (outside a b c d) (inside f g h k) = let z = alike (ahead bl bh y) (behind bl bh y) in simp (a, b, f, g, c, d, k, z)
  column-by (outside a b c d) (high w f g h k) =
      let z : right bl bh y ≡ 0 + 0 + right bl bh y = omega arith in
      simp (a, b, f, g, c, d, k) z
  column-by (low w a b c d) (outside f g h k) =
      let n = or-none (ahead al ah y) in
      let m = or-none (behind al ah y) in
      let z : left al ah y ≡ left al ah y + 0 + 0 = omega arith in
      simp (a, b, f, g, c, d, k, n, m) z
  column-by (low w a b c d) (low v f g h k) = absurd (omega arith)
  column-by (low w a b c d) (inside f g h k) = absurd (true≢false (sym f ∙ ahead-under e xh x (omega arith)))
  column-by (low w a b c d) (high v f g h k) = absurd (omega arith)
  column-by (inside a b c d) (outside f g h k) =
      let n = or-none (ahead al ah y) in
      let m = or-none (behind al ah y) in
      let z = alike (ahead al ah y) (behind al ah y) in
      simp (a, b, f, g, c, d, k, n, m, z)
  column-by (inside a b c d) (low v f g h k) = absurd (true≢false (sym h ∙ d))
  column-by (inside a b c d) (inside f g h k) = absurd (never (le-or x e))
    where
      never : (x ≤ e) ⊎ (e < x) → ⊥
      never (inl z) = true≢false (sym f ∙ ahead-under e xh x z)
      never (inr z) = true≢false (sym a ∙ ahead_past xl e x z)
  column-by (inside a b c d) (high v f g h k) = absurd (true≢false (sym a ∙ ahead_past xl e x (omega arith)))
  column-by (high w a b c d) (outside f g h k) = absurd (true≢false (sym d ∙ h))
  column-by (high w a b c d) (low v f g h k) =
      let n = or-none (ahead al ah y) in
      let m = or-none (behind al ah y) in
      let z : between al ah bl bh y ≡ 0 + between al ah bl bh y + 0 = omega arith in
      simp (a, b, f, g, c, d, k, n, m) z
  column-by (high w a b c d) (inside f g h k) = absurd (true≢false (sym d ∙ h))
  column-by (high w a b c d) (high v f g h k) = absurd (omega arith)

-- ---- how many corners stand on a line
ends_by : (lo hi y : ℕ) → Place lo hi y → (left lo hi y ≡ only (eqb y lo) 1 + only (eqb y hi) 1) × (right lo hi y ≡ only (eqb y lo) 1 + only (eqb y hi) 1)
ends_by lo hi y (outside a b c d) = (simp (a, b, c, d), simp (a, b, c, d))
ends_by lo hi y (low w a b c d) = (simp (a, b, c, d), simp (a, b, c, d))
ends_by lo hi y (inside a b c d) = (simp (a, b, c, d), simp (a, b, c, d))
ends_by lo hi y (high w a b c d) = (simp (a, b, c, d), simp (a, b, c, d))

-- at each end of one of the two sides, unless it is an end of both
middle-by : (al ah bl bh y : ℕ) → al < bh → bl < ah → Place al ah y → Place bl bh y
    → between al ah bl bh y + (only (eqb y al && eqb y bl) 2 + only (eqb y ah && eqb y bh) 2) ≡ only (eqb y al) 1 + only (eqb y ah) 1 + (only (eqb y bl) 1 + only (eqb y bh) 1)
middle-by al ah bl bh y p q (outside a b c d) (outside f g h k) = simp (a, b, f, g, c, d, h, k)
middle-by al ah bl bh y p q (outside a b c d) (low v f g h k) = simp (a, b, f, g, c, d, h, k)
middle-by al ah bl bh y p q (outside a b c d) (inside f g h k) = simp (a, b, f, g, c, d, h, k)
middle-by al ah bl bh y p q (outside a b c d) (high v f g h k) = simp (a, b, f, g, c, d, h, k)
middle-by al ah bl bh y p q (low w a b c d) (outside f g h k) = simp (a, b, f, g, c, d, h, k)
middle-by al ah bl bh y p q (low w a b c d) (low v f g h k) = simp (a, b, f, g, c, d, h, k)
middle-by al ah bl bh y p q (low w a b c d) (inside f g h k) = simp (a, b, f, g, c, d, h, k)
middle-by al ah bl bh y p q (low w a b c d) (high v f g h k) = absurd (omega arith)
middle-by al ah bl bh y p q (inside a b c d) (outside f g h k) = simp (a, b, f, g, c, d, h, k)
middle-by al ah bl bh y p q (inside a b c d) (low v f g h k) = simp (a, b, f, g, c, d, h, k)
middle-by al ah bl bh y p q (inside a b c d) (inside f g h k) = simp (a, b, f, g, c, d, h, k)
middle-by al ah bl bh y p q (inside a b c d) (high v f g h k) = simp (a, b, f, g, c, d, h, k)
middle-by al ah bl bh y p q (high w a b c d) (outside f g h k) = simp (a, b, f, g, c, d, h, k)
middle-by al ah bl bh y p q (high w a b c d) (low v f g h k) = absurd (omega arith)
middle-by al ah bl bh y p q (high w a b c d) (inside f g h k) = simp (a, b, f, g, c, d, h, k)
middle-by al ah bl bh y p q (high w a b c d) (high v f g h k) = simp (a, b, f, g, c, d, h, k)

-- ---- sums over all lines
picked : (n i k : ℕ) → i < n → over 0 n (λ y. only (eqb y i) k) ≡ k
picked n i k p = let z : 0 ≤ i = omega arith in over_pick 0 n i k ∙ ap₂ (λ s t. only (s && t) k) (le-leb 0 i z) (lt-ltb i n p)

end_sum : (n lo hi : ℕ) → lo < n → hi < n → over 0 n (λ y. only (eqb y lo) 1 + only (eqb y hi) 1) ≡ 2
end_sum n lo hi p q =
    over_add 0 n (λ y. only (eqb y lo) 1) (λ y. only (eqb y hi) 1)
    ∙ ap₂ ◌+◌ (picked n lo 1 p) (picked n hi 1 q)

-- an end of both sides is counted twice, and is one where the ends coincide
shared_by : (n p q : ℕ) → p < n → (b : Bool) → eqb p q ≡ b → over 0 n (λ y. only (eqb y p && eqb y q) 2) ≡ only b 2
shared_by n p q h true e =
    over-same 0 n (λ y. only (eqb y p && eqb y q) 2) (λ y. only (eqb y p) 2) (λ y u v. ap (λ b. only b 2) (both y (eqb y p) refl)) ∙ picked n p 2 h
  where
    both : (y : ℕ) (b : Bool) → eqb y p ≡ b → (b && eqb y q) ≡ b
    both y true f = eq-eqb y q (omega (arith, eqb-true y p f, eqb-true p q e))
    both y false f = refl
shared_by n p q h false e = over_zero 0 n (λ y. only (eqb y p && eqb y q) 2) (λ y u v. ap (λ b. only b 2) (neither y (eqb y p) refl))
  where
    neither : (y : ℕ) (b : Bool) → eqb y p ≡ b → (b && eqb y q) ≡ false
    neither y true f = ne_eqb y q (λ z. eqb-false p q e (omega (arith, eqb-true y p f)))
    neither y false f = refl

module _ (n al ah bl bh : ℕ) (ha : al < ah) (hb : bl < bh) (p : al < bh) (q : bl < ah) (na : ah < n) (nb : bh < n) where
  middle_sum : over 0 n (between al ah bl bh) + (only (eqb al bl) 2 + only (eqb ah bh) 2) ≡ 4
  middle_sum =
      let f : ℕ → ℕ = between al ah bl bh in
      let g : ℕ → ℕ = λ y. only (eqb y al && eqb y bl) 2 in
      let h : ℕ → ℕ = λ y. only (eqb y ah && eqb y bh) 2 in
      ap (λ m. over 0 n f + m) (sym (over_add 0 n g h ∙ ap₂ ◌+◌ (shared_by n al bl (omega arith) (eqb al bl) refl) (shared_by n ah bh na (eqb ah bh) refl)))
      ∙ sym (over_add 0 n f (λ y. g y + h y))
      ∙ over-same 0 n (λ y. f y + (g y + h y)) (λ y. only (eqb y al) 1 + only (eqb y ah) 1 + (only (eqb y bl) 1 + only (eqb y bh) 1)) (λ y u v. middle-by al ah bl bh y p q (place al ah y ha) (place bl bh y hb))
      ∙ over_add 0 n (λ y. only (eqb y al) 1 + only (eqb y ah) 1) (λ y. only (eqb y bl) 1 + only (eqb y bh) 1)
      ∙ ap₂ ◌+◌ (end_sum n al ah (omega arith) na) (end_sum n bl bh (omega arith) nb)

-- the sum of what stands on one line
line_sum : (n e : ℕ) (f : ℕ → ℕ) → e < n → over 0 n (λ x. over 0 n (λ y. only (eqb x e) (f y))) ≡ over 0 n f
line_sum n e f h = over-same 0 n (λ x. over 0 n (λ y. only (eqb x e) (f y))) (λ x. only (eqb x e) (over 0 n f)) (λ x u v. only-over (eqb x e) 0 n f) ∙ picked n e (over 0 n f) h

-- ---- the corners of two shots side by side
abbrev area : Shot → Type 0
area s = (s.xlow < s.xhigh) × (s.ylow < s.yhigh)

abbrev below_all : Shot → ℕ → Type 0
below_all s n = (s.xhigh < n) × (s.yhigh < n)

module _ (a b : Shot) (n : ℕ) (sa : area a) (sb : area b) (na : below_all a n) (nb : below_all b n) (e : a.xhigh ≡ b.xlow) (p : a.ylow < b.yhigh) (q : b.ylow < a.yhigh) where
  abbrev l : ℕ → ℕ
  l = left a.ylow a.yhigh

  abbrev m : ℕ → ℕ
  m = between a.ylow a.yhigh b.ylow b.yhigh

  abbrev r : ℕ → ℕ
  r = right b.ylow b.yhigh

  column : (x y : ℕ) → corners_at (union a b) x y ≡ only (eqb x a.xlow) (l y) + only (eqb x b.xlow) (m y) + only (eqb x b.xhigh) (r y)
  column x y =
      around a b x y
      ∙ ap (λ h. turns (ahead a.xlow h x && ahead a.ylow a.yhigh y || ahead b.xlow b.xhigh x && ahead b.ylow b.yhigh y) (behind a.xlow h x && ahead a.ylow a.yhigh y || behind b.xlow b.xhigh x && ahead b.ylow b.yhigh y) (ahead a.xlow h x && behind a.ylow a.yhigh y || ahead b.xlow b.xhigh x && behind b.ylow b.yhigh y) (behind a.xlow h x && behind a.ylow a.yhigh y || behind b.xlow b.xhigh x && behind b.ylow b.yhigh y)) e
      ∙ column-by a.xlow b.xlow b.xhigh a.ylow a.yhigh b.ylow b.yhigh x y (omega (arith, sa.0)) sb.0 (place a.xlow b.xlow x (omega (arith, sa.0))) (place b.xlow b.xhigh x sb.0)

  column_sum : corners (union a b) n ≡ over 0 n l + over 0 n m + over 0 n r
  unfolding corners
  column_sum =
      let f : ℕ → ℕ → ℕ = λ x y. only (eqb x a.xlow) (l y) in
      let g : ℕ → ℕ → ℕ = λ x y. only (eqb x b.xlow) (m y) in
      let h : ℕ → ℕ → ℕ = λ x y. only (eqb x b.xhigh) (r y) in
      over-same 0 n (λ x. over 0 n (corners_at (union a b) x)) (λ x. over 0 n (λ y. f x y + g x y) + over 0 n (h x))
      (λ x u v. over-same 0 n (corners_at (union a b) x) (λ y. f x y + g x y + h x y) (λ y s t. column x y) ∙ over_add 0 n (λ y. f x y + g x y) (h x))
      ∙ over_add 0 n (λ x. over 0 n (λ y. f x y + g x y)) (λ x. over 0 n (h x))
      ∙ ap₂ ◌+◌
      (over-same 0 n (λ x. over 0 n (λ y. f x y + g x y)) (λ x. over 0 n (f x) + over 0 n (g x)) (λ x u v. over_add 0 n (f x) (g x))
      ∙ over_add 0 n (λ x. over 0 n (f x)) (λ x. over 0 n (g x))
      ∙ ap₂ ◌+◌ (line_sum n a.xlow l (omega (arith, sa.0, na.0))) (line_sum n b.xlow m (omega (arith, sb.0, nb.0))))
      (line_sum n b.xhigh r nb.0)

  ends-left : over 0 n l ≡ 2
  ends-left =
      over-same 0 n l (λ y. only (eqb y a.ylow) 1 + only (eqb y a.yhigh) 1) (λ y u v. (ends_by a.ylow a.yhigh y (place a.ylow a.yhigh y sa.1)).0)
      ∙ end_sum n a.ylow a.yhigh (omega (arith, sa.1, na.1)) na.1

  ends-right : over 0 n r ≡ 2
  ends-right =
      over-same 0 n r (λ y. only (eqb y b.ylow) 1 + only (eqb y b.yhigh) 1) (λ y u v. (ends_by b.ylow b.yhigh y (place b.ylow b.yhigh y sb.1)).1)
      ∙ end_sum n b.ylow b.yhigh (omega (arith, sb.1, nb.1)) nb.1

  -- eight corners, less two for each end that coincides
  corners-beside : corners (union a b) n + (only (eqb a.ylow b.ylow) 2 + only (eqb a.yhigh b.yhigh) 2) ≡ 8
  corners-beside =
      omega (arith, column_sum, ends-left, ends-right, middle_sum n a.ylow a.yhigh b.ylow b.yhigh sa.1 sb.1 p q na.1 nb.1)

-- ---- the other ways round
-- a shot with x and y exchanged, and a set of squares
abbrev turn : Shot → Shot
turn s = record { xlow = s.ylow; ylow = s.xlow; xhigh = s.yhigh; yhigh = s.xhigh }

corners-same : (F G : ℕ → ℕ → Bool) (n : ℕ) → ((x y : ℕ) → F x y ≡ G x y) → corners F n ≡ corners G n
corners-same F G n h = ap (λ (K : ℕ → ℕ → Bool). corners K n) (λ i x y. h x y i)

union_swap : (a b : Shot) (x y : ℕ) → union b a x y ≡ union a b x y
unfolding union
union_swap a b x y = or_comm (holds x y b) (holds x y a)

union-turn : (a b : Shot) (x y : ℕ) → union (turn a) (turn b) x y ≡ union a b y x
unfolding union holds
union-turn a b x y =
    ap₂ ◌||◌
    (and_comm (behind a.ylow a.yhigh x) (behind a.xlow a.xhigh y))
    (and_comm (behind b.ylow b.yhigh x) (behind b.xlow b.xhigh y))

turns-turn : (p q r s : Bool) → turns p q r s ≡ turns p r q s
turns-turn true true true true = refl
turns-turn true true true false = refl
turns-turn true true false true = refl
turns-turn true true false false = refl
turns-turn true false true true = refl
turns-turn true false true false = refl
turns-turn true false false true = refl
turns-turn true false false false = refl
turns-turn false true true true = refl
turns-turn false true true false = refl
turns-turn false true false true = refl
turns-turn false true false false = refl
turns-turn false false true true = refl
turns-turn false false true false = refl
turns-turn false false false true = refl
turns-turn false false false false = refl

corner-turn : (F : ℕ → ℕ → Bool) (x y : ℕ) → corners_at (λ u v. F v u) x y ≡ corners_at F y x
unfolding corners_at
corner-turn F zero zero = turns-turn false false false (F 0 0)
corner-turn F zero (suc y) = turns-turn false (F y 0) false (F (suc y) 0)
corner-turn F (suc x) zero = turns-turn false false (F 0 x) (F 0 (suc x))
corner-turn F (suc x) (suc y) = turns-turn (F y x) (F y (suc x)) (F (suc y) x) (F (suc y) (suc x))

corners-turn : (F : ℕ → ℕ → Bool) (n : ℕ) → corners (λ u v. F v u) n ≡ corners F n
unfolding corners
corners-turn F n =
    over-same 0 n (λ x. over 0 n (corners_at (λ u v. F v u) x)) (λ x. over 0 n (λ y. corners_at F y x)) (λ x p q. over-same 0 n (corners_at (λ u v. F v u) x) (λ y. corners_at F y x) (λ y r s. corner-turn F x y))
    ∙ sym (over_swap 0 n 0 n (corners_at F))

-- ---- what touching says
record Meeting (e s al ah bl bh : ℕ) : Type 0 where
  line : e ≡ s
  low : al < bh
  high : bl < ah
  one : (al ≡ bl) ⊎ (ah ≡ bh)

meeting_by : (e s al ah bl bh : ℕ) (t u v w z : Bool) → eqb e s ≡ t → ltb al bh ≡ u → ltb bl ah ≡ v → eqb al bl ≡ w → eqb ah bh ≡ z → (t && u && v && (w || z)) ≡ true → Meeting e s al ah bl bh
meeting_by e s al ah bl bh true true true true z f g h i j k = record { line = eqb-true e s f; low = ltb-true al bh g; high = ltb-true bl ah h; one = inl (eqb-true al bl i) }
meeting_by e s al ah bl bh true true true false true f g h i j k = record { line = eqb-true e s f; low = ltb-true al bh g; high = ltb-true bl ah h; one = inr (eqb-true ah bh j) }
meeting_by e s al ah bl bh true true true false false f g h i j k = absurd (true≢false (sym k))
meeting_by e s al ah bl bh true true false w z f g h i j k = absurd (true≢false (sym k))
meeting_by e s al ah bl bh true false v w z f g h i j k = absurd (true≢false (sym k))
meeting_by e s al ah bl bh false u v w z f g h i j k = absurd (true≢false (sym k))

meeting : (e s al ah bl bh : ℕ) → touches e s al ah bl bh ≡ true → Meeting e s al ah bl bh
unfolding touches
meeting e s al ah bl bh h = meeting_by e s al ah bl bh (eqb e s) (ltb al bh) (ltb bl ah) (eqb al bl) (eqb ah bh) refl refl refl refl refl h

-- ---- six or four
six_by : (k al ah bl bh : ℕ) (b c : Bool) → eqb al bl ≡ b → eqb ah bh ≡ c → k + (only (eqb al bl) 2 + only (eqb ah bh) 2) ≡ 8 → (al ≡ bl) ⊎ (ah ≡ bh) → (k ≡ 6) ⊎ (k ≡ 4)
six_by k al ah bl bh true true e f h o = let z : k + (2 + 2) ≡ 8 = simp (e, f) at h in inr (omega arith)
six_by k al ah bl bh true false e f h o = let z : k + (2 + 0) ≡ 8 = simp (e, f) at h in inl (omega arith)
six_by k al ah bl bh false true e f h o = let z : k + (0 + 2) ≡ 8 = simp (e, f) at h in inl (omega arith)
six_by k al ah bl bh false false e f h (inl z) = absurd (eqb-false al bl e z)
six_by k al ah bl bh false false e f h (inr z) = absurd (eqb-false ah bh f z)

Few : Shot → Shot → ℕ → Type 0
Few a b n = (corners (union a b) n ≡ 6) ⊎ (corners (union a b) n ≡ 4)

module _ (a b : Shot) (n : ℕ) (sa : area a) (sb : area b) (na : below_all a n) (nb : below_all b n) where
  few-beside : beside a b ≡ true → Few a b n
  unfolding beside Few
  few-beside h =
      let t = meeting a.xhigh b.xlow a.ylow a.yhigh b.ylow b.yhigh h in
      six_by (corners (union a b) n) a.ylow a.yhigh b.ylow b.yhigh (eqb a.ylow b.ylow) (eqb a.yhigh b.yhigh) refl refl (corners-beside a b n sa sb na nb t.line t.low t.high) t.one

few_swap : (a b : Shot) (n : ℕ) → Few b a n → Few a b n
unfolding Few
few_swap a b n (inl e) = inl (sym (corners-same (union b a) (union a b) n (union_swap a b)) ∙ e)
few_swap a b n (inr e) = inr (sym (corners-same (union b a) (union a b) n (union_swap a b)) ∙ e)

turned_same : (a b : Shot) (n : ℕ) → corners (union a b) n ≡ corners (union (turn a) (turn b)) n
turned_same a b n = sym (corners-turn (union a b) n) ∙ sym (corners-same (union (turn a) (turn b)) (λ u v. union a b v u) n (union-turn a b))

few-turn : (a b : Shot) (n : ℕ) → Few (turn a) (turn b) n → Few a b n
unfolding Few
few-turn a b n (inl e) = inl (turned_same a b n ∙ e)
few-turn a b n (inr e) = inr (turned_same a b n ∙ e)

below-turn : (a b : Shot) → below a b ≡ beside (turn a) (turn b)
unfolding below beside
below-turn a b = refl

few-below : (a b : Shot) (n : ℕ) → area a → area b → below_all a n → below_all b n → below a b ≡ true → Few a b n
few-below a b n sa sb na nb h = few-turn a b n (few-beside (turn a) (turn b) n (sa.1, sa.0) (sb.1, sb.0) (na.1, na.0) (nb.1, nb.0) (sym (below-turn a b) ∙ h))

few-by : (a b : Shot) (n : ℕ) → area a → area b → below_all a n → below_all b n → (p q r s : Bool) → beside a b ≡ p → beside b a ≡ q → below a b ≡ r → below b a ≡ s → (p || q || r || s) ≡ true → Few a b n
few-by a b n sa sb na nb true q r s e f g h k = few-beside a b n sa sb na nb e
few-by a b n sa sb na nb false true r s e f g h k = few_swap a b n (few-beside b a n sb sa nb na f)
few-by a b n sa sb na nb false false true s e f g h k = few-below a b n sa sb na nb g
few-by a b n sa sb na nb false false false true e f g h k = few_swap a b n (few-below b a n sb sa nb na h)
few-by a b n sa sb na nb false false false false e f g h k = absurd (true≢false (sym k))

pub six_or-four : (a b : Shot) (n : ℕ) → (a.xlow < a.xhigh) × (a.ylow < a.yhigh) → (b.xlow < b.xhigh) × (b.ylow < b.yhigh) → (a.xhigh < n) × (a.yhigh < n) → (b.xhigh < n) × (b.yhigh < n) → can_join a b ≡ true
    → (corners (union a b) n ≡ 6) ⊎ (corners (union a b) n ≡ 4)
unfolding can_join Few
six_or-four a b n sa sb na nb h = few-by a b n sa sb na nb (beside a b) (beside b a) (below a b) (below b a) refl refl refl refl h
