-- Laws of `over`, the sum over a run of lines, and of `only`. Assumes nothing.
--
--   over_none, over-one, over_last       == an empty run, a run of one, the last summand
--   over-cut, over-part, over_term       == a run cut at a line; a part of a run; one summand of it
--   over-le, over-same, over_tight       == summand by summand: at most, the same, and equal where the sums are
--   over_add, over-mul, over_zero        == a sum of sums, a factor, summands of nothing
--   over_swap, over-steps, over_ones     == two sums in either order; differences add up; the length of a run
--   over_pick, over-spans                == one line picked out; the one pair of neighbours that a place lies between
--   only-over, only-only, only-add, only-most   == a test before a sum, two tests, a sum, the most
--   le-or, rise                          == a ≤ b or b < a; what rises from each line to the next rises all along
use Prim.Native.Nat.{ℕ, zero, suc, ◌+◌, ◌*◌, ◌-◌, ◌≤◌, ◌<◌}
use mathlib.Core.Path.{◌≡◌, refl, sym, ◌∙◌, ap}
use mathlib.Core.Bool.{Bool, true, false, ◌&&◌}
use mathlib.Core.Logic.{◌⊎◌, inl, inr}
use native.Mathlib.Omega.{arith}
use native.Mathlib.Nat.{mul-add}
use lib.Dec.{leb, ltb, eqb}
use borrow.Author.Tests.{le-leb, lt-leb, le-ltb, leb-true, leb-false, ltb-true, ltb-false, eq-eqb, ne_eqb}
use Rattle.sum.specs.Sum.{over, only}

-- a ≤ b or b < a
pub le-or : (a b : ℕ) → (a ≤ b) ⊎ (b < a)
le-or a b = go (leb a b) refl
  where
    go : (t : Bool) → leb a b ≡ t → (a ≤ b) ⊎ (b < a)
    go true e = inl (leb-true a b e)
    go false e = inr (leb-false a b e)

pub over_none : (a c : ℕ) (f : ℕ → ℕ) → c ≤ a → over a c f ≡ 0
unfolding over
over_none a zero f h = refl
over_none a (suc k) f h =
    let e : leb a k ≡ false = lt-leb a k h in
    let i : over a k f ≡ 0 = over_none a k f (omega arith) in
    rw (e, i)

-- the last summand
pub over_last : (a k : ℕ) (f : ℕ → ℕ) → a ≤ k → over a (suc k) f ≡ over a k f + f k
unfolding over
over_last a k f h = rw (le-leb a k h)

-- a run of one
pub over-one : (a : ℕ) (f : ℕ → ℕ) → over a (suc a) f ≡ f a
over-one a f = omega (arith, over_last a a f (omega arith), over_none a a f (omega arith))

-- a cut of the run
pub over-cut : (a j c : ℕ) (f : ℕ → ℕ) → a ≤ j → j ≤ c → over a c f ≡ over a j f + over j c f
over-cut a j zero f h k = omega (arith, over_none a 0 f (omega arith), over_none a j f (omega arith), over_none j 0 f (omega arith))
over-cut a j (suc c) f h k = elim (le-or j c) [
  | inl q ↦ omega (arith, over-cut a j c f h q, over_last a c f (omega arith), over_last j c f q)
  | inr q ↦
      let e : j ≡ suc c = omega arith in
      rw e (omega (arith, over_none (suc c) (suc c) f (omega arith)))
]

-- summand by summand
pub over-le : (a c : ℕ) (f g : ℕ → ℕ) → ((k : ℕ) → a ≤ k → k < c → f k ≤ g k) → over a c f ≤ over a c g
over-le a zero f g h = omega (arith, over_none a 0 f (omega arith))
over-le a (suc c) f g h = elim (le-or a c) [
  | inl q ↦
      omega (arith, over_last a c f q, over_last a c g q, over-le a c f g (λ k p r. h k p (omega arith)), h c q (omega arith))
  | inr q ↦ omega (arith, over_none a (suc c) f q)
]

pub over-same : (a c : ℕ) (f g : ℕ → ℕ) → ((k : ℕ) → a ≤ k → k < c → f k ≡ g k) → over a c f ≡ over a c g
over-same a c f g h =
    omega (arith, over-le a c f g (λ k p q. omega (arith, h k p q)), over-le a c g f (λ k p q. omega (arith, h k p q)))

pub over_add : (a c : ℕ) (f g : ℕ → ℕ) → over a c (λ k. f k + g k) ≡ over a c f + over a c g
unfolding over
over_add a zero f g = refl
over_add a (suc c) f g = go (leb a c) (over_add a c f g)
  where
    go : (t : Bool) → over a c (λ k. f k + g k) ≡ over a c f + over a c g
        → over a c (λ k. f k + g k) + only t (f c + g c) ≡ (over a c f + only t (f c)) + (over a c g + only t (g c))
    go true e = omega arith
    go false e = omega arith

pub over-mul : (a c n : ℕ) (f : ℕ → ℕ) → over a c (λ k. n * f k) ≡ n * over a c f
unfolding over
over-mul a zero n f = omega arith
over-mul a (suc c) n f = go (leb a c) (over-mul a c n f)
  where
    go : (t : Bool) → over a c (λ k. n * f k) ≡ n * over a c f
        → over a c (λ k. n * f k) + only t (n * f c) ≡ n * (over a c f + only t (f c))
    go true e = rw (mul-add, e)
    go false e = omega arith

pub over_zero : (a c : ℕ) (f : ℕ → ℕ) → ((k : ℕ) → a ≤ k → k < c → f k ≡ 0) → over a c f ≡ 0
over_zero a zero f h = over_none a 0 f (omega arith)
over_zero a (suc c) f h = elim (le-or a c) [
  | inl q ↦ omega (arith, over_last a c f q, over_zero a c f (λ k p r. h k p (omega arith)), h c q (omega arith))
  | inr q ↦ over_none a (suc c) f q
]

-- a part of the run
pub over-part : (a c a' c' : ℕ) (f : ℕ → ℕ) → a' ≤ a → a ≤ c → c ≤ c' → over a c f ≤ over a' c' f
over-part a c a' c' f h k l = omega (arith, over-cut a' a c' f h (omega arith), over-cut a c c' f k l)

-- a summand is at most the sum
pub over_term : (a c k : ℕ) (f : ℕ → ℕ) → a ≤ k → k < c → f k ≤ over a c f
over_term a c k f h q =
    omega (arith, over-cut a k c f h (omega arith), over-cut k (suc k) c f (omega arith) q, over-one k f)

-- summand by summand at most, and sums equal: each equal
pub over_tight : (a c k : ℕ) (f g : ℕ → ℕ) → ((j : ℕ) → a ≤ j → j < c → f j ≤ g j) → over a c f ≡ over a c g → a ≤ k → k < c → f k ≡ g k
over_tight a c k f g h e p q =
    omega (
      arith,
      over-cut a k c f p (omega arith),
      over-cut k (suc k) c f (omega arith) q,
      over-one k f,
      over-cut a k c g p (omega arith),
      over-cut k (suc k) c g (omega arith) q,
      over-one k g,
      h k p q,
      over-le a k f g (λ j r s. h j r (omega arith)),
      over-le (suc k) c f g (λ j r s. h j (omega arith) s),
    )

-- one summand picked out
pub over_pick : (a c i n : ℕ) → over a c (λ k. only (eqb k i) n) ≡ only (leb a i && ltb i c) n
over_pick a c i n = go (leb a i) refl (ltb i c) refl
  where
    f : ℕ → ℕ
    f k = only (eqb k i) n

    other : (k : ℕ) → (k ≡ i → ⊥) → only (eqb k i) n ≡ 0
    other k h = rw (ne_eqb k i h)

    here : only (eqb i i) n ≡ n
    here = rw (eq-eqb i i refl)

    go : (t : Bool) → leb a i ≡ t → (u : Bool) → ltb i c ≡ u → over a c (λ k. only (eqb k i) n) ≡ only (t && u) n
    go true e true q =
        let h = leb-true a i e in
        let k = ltb-true i c q in
        omega (
          arith,
          over-cut a i c f h (omega arith),
          over-cut i (suc i) c f (omega arith) k,
          over-one i f,
          here,
          over_zero a i f (λ j r s. other j (λ z. omega arith)),
          over_zero (suc i) c f (λ j r s. other j (λ z. omega arith)),
        )
    go true e false q = let k = ltb-false i c q in over_zero a c f (λ j r s. other j (λ z. omega arith))
    go false e true q = let h = leb-false a i e in over_zero a c f (λ j r s. other j (λ z. omega arith))
    go false e false q = let h = leb-false a i e in over_zero a c f (λ j r s. other j (λ z. omega arith))

-- the order of two sums
pub over_swap : (a c b d : ℕ) (f : ℕ → ℕ → ℕ) → over a c (λ i. over b d (f i)) ≡ over b d (λ j. over a c (λ i. f i j))
unfolding over
over_swap a zero b d f = sym (over_zero b d _ (λ j q r. refl))
over_swap a (suc c) b d f =
    ap (λ n. n + only (leb a c) (over b d (f c))) (over_swap a c b d f)
    ∙ ap (λ n. over b d (λ j. over a c (λ i. f i j)) + n) (go (leb a c))
    ∙ sym (over_add b d (λ j. over a c (λ i. f i j)) (λ j. only (leb a c) (f c j)))
  where
    go : (t : Bool) → only t (over b d (f c)) ≡ over b d (λ j. only t (f c j))
    go true = refl
    go false = sym (over_zero b d _ (λ j q r. refl))

-- differences add up
pub over-steps : (n : ℕ) (f : ℕ → ℕ) → ((i : ℕ) → f i ≤ f (suc i)) → over 0 n (λ k. f (suc k) - f k) + f 0 ≡ f n
over-steps zero f up = omega (arith, over_none 0 0 (λ k. f (suc k) - f k) (omega arith))
over-steps (suc n) f up = omega (arith, over_last 0 n (λ k. f (suc k) - f k) (omega arith), over-steps n f up, up n)

-- the run's length
pub over_ones : (a c : ℕ) → over a c (λ k. 1) + a ≡ c + over c a (λ k. 1)
over_ones a c = go (le-or a c)
  where
    up : (a c : ℕ) → a ≤ c → over a c (λ k. 1) + a ≡ c
    up a zero h = omega (arith, over_none a 0 (λ k. 1) (omega arith))
    up a (suc c) h = elim (le-or a c) [
      | inl q ↦ omega (arith, over_last a c (λ k. 1) q, up a c q)
      | inr q ↦ omega (arith, over_none a (suc c) (λ k. 1) (omega arith))
    ]

    go : (a ≤ c) ⊎ (c < a) → over a c (λ k. 1) + a ≡ c + over c a (λ k. 1)
    go (inl q) = omega (arith, up a c q, over_none c a (λ k. 1) q)
    go (inr q) = omega (arith, up c a (omega arith), over_none a c (λ k. 1) (omega arith))

pub only-over : (s : Bool) (b d : ℕ) (f : ℕ → ℕ) → over b d (λ v. only s (f v)) ≡ only s (over b d f)
only-over true b d f = refl
only-over false b d f = over_zero b d _ (λ k q r. refl)

pub only-only : (s t : Bool) (n : ℕ) → only s (only t n) ≡ only (s && t) n
only-only true t n = refl
only-only false t n = refl

pub only-add : (t : Bool) (m n : ℕ) → only t (m + n) ≡ only t m + only t n
only-add true m n = refl
only-add false m n = omega arith

pub only-most : (t : Bool) (n : ℕ) → only t n ≤ n
only-most true n = omega arith
only-most false n = omega arith

pub rise : (f : ℕ → ℕ) → ((i : ℕ) → f i ≤ f (suc i)) → (i j : ℕ) → i ≤ j → f i ≤ f j
rise f up i zero h = (let e : i ≡ 0 = omega arith in rw e (omega arith))
rise f up i (suc j) h = elim (le-or i j) [
  | inl q ↦ omega (arith, rise f up i j q, up j)
  | inr q ↦ (let e : i ≡ suc j = omega arith in rw e (omega arith))
]

-- a place is between the ends of a run of lines just if it is between two neighbours of the run
pub over-spans : (f : ℕ → ℕ) → ((i : ℕ) → f i ≤ f (suc i)) → (a c x n : ℕ) → a ≤ c
    → over a c (λ i. only (leb (f i) x && ltb x (f (suc i))) n) ≡ only (leb (f a) x && ltb x (f c)) n
over-spans f up a zero x n h = over_none a 0 _ (omega arith) ∙ sym (none a h (leb (f a) x) refl)
  where
    none : (a : ℕ) → a ≤ 0 → (t : Bool) → leb (f a) x ≡ t → only (t && ltb x (f 0)) n ≡ 0
    none a h true e =
        let q = leb-true (f a) x e in
        let z : a ≡ 0 = omega arith in
        rw (le-ltb x (f 0) (omega (arith, ap f z)))
    none a h false e = refl
over-spans f up a (suc c) x n h = elim (le-or a c) [
  | inl q ↦
      over_last a c (λ i. only (leb (f i) x && ltb x (f (suc i))) n) q
      ∙ ap (λ m. m + only (leb (f c) x && ltb x (f (suc c))) n) (over-spans f up a c x n q)
      ∙ one (f a) (f c) (f (suc c)) (rise f up a c q) (up c)
  | inr q ↦
      over_none a (suc c) _ q
      ∙ sym (none (leb (f a) x) refl (ap f (same q)))
]
  where
    same : c < a → a ≡ suc c
    same q = omega arith

    none : (t : Bool) → leb (f a) x ≡ t → f a ≡ f (suc c) → only (t && ltb x (f (suc c))) n ≡ 0
    none true e z = let q = leb-true (f a) x e in rw (le-ltb x (f (suc c)) (omega arith))
    none false e z = refl

    one : (u v w : ℕ) → u ≤ v → v ≤ w → only (leb u x && ltb x v) n + only (leb v x && ltb x w) n ≡ only (leb u x && ltb x w) n
    one u v w hu hv = go (leb u x) refl (leb v x) refl (ltb x v) refl (ltb x w) refl
      where
        go : (s : Bool) → leb u x ≡ s → (t : Bool) → leb v x ≡ t → (k : Bool) → ltb x v ≡ k → (m : Bool) → ltb x w ≡ m
            → only (s && k) n + only (t && m) n ≡ only (s && m) n
        go true e true e₁ true e₂ m e₃ = absurd (omega (arith, leb-true v x e₁, ltb-true x v e₂))
        go true e true e₁ false e₂ m e₃ = omega arith
        go true e false e₁ false e₂ m e₃ = absurd (omega (arith, leb-false v x e₁, ltb-false x v e₂))
        go true e false e₁ true e₂ true e₃ = omega arith
        go true e false e₁ true e₂ false e₃ = absurd (omega (arith, ltb-true x v e₂, ltb-false x w e₃))
        go false e true e₁ k e₂ m e₃ = absurd (omega (arith, leb-true v x e₁, leb-false u x e))
        go false e false e₁ k e₂ m e₃ = omega arith
