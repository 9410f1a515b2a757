-- Weighing into a side store: what a step of the pinwheel fill promises, and how steps compose. Assumes nothing.
--
--   weighed-none, weighed_as, weighed-then  == nothing weighed; the same things weighed, said otherwise; one step after another
--   among_none, among-more, among-end       == a loop: no line yet, one line more, the end
--   among_halves                            == the lines of two runs, one behind the other
--   weighed-lower                           == one piece lowered in each lane
--   weighed-least                           == sums with the least of several rests weigh what the sums with each rest weigh
use Rattle.std.proofs.Common.{◌≡◌, ℕ, ◌+◌, ◌-◌, ◌*◌, ◌<◌, ◌≤◌, ◌⊎◌, List, get_or, refl, ap, ◌∙◌, subst, inl, inr, ⊎_elim, arith}
use Rattle.sum.proofs.Sum.{le-or}
use Rattle.table.specs.Run.{Wrote, Lowest}
use Rattle.wheels.specs.Wheel.{lowered, Weighed, Among}

pub weighed-none : (n : ℕ) (S : ℕ → ℕ → ℕ → Type 0) (t : List ℕ) → ((e a v : ℕ) → S e a v → ⊥) → Weighed n S t t
weighed-none n S t none =
    record { long = refl; below = λ i. omega arith; under = λ e a v h s. absurd (none e a v s); above = λ e a m h k q. k }

pub weighed_as : (n : ℕ) (S T : ℕ → ℕ → ℕ → Type 0) (t u : List ℕ) → ((e a v : ℕ) → a < n → S e a v → T e a v) → ((e a v : ℕ) → a < n → T e a v → S e a v)
    → Weighed n S t u → Weighed n T t u
weighed_as n S T t u to from w =
    record {
      long = w.long;
      below = w.below;
      under = λ e a v h s. w.under e a v h (from e a v h s);
      above = λ e a m h k q. w.above e a m h k (λ v s. q v (to e a v h s));
    }

pub weighed-then : (n : ℕ) (S T : ℕ → ℕ → ℕ → Type 0) (t u w : List ℕ) → Weighed n S t u → Weighed n T u w → Weighed n (λ e a v. S e a v ⊎ T e a v) t w
weighed-then n S T t u w p q =
    record {
      long = q.long ∙ p.long;
      below = λ i. omega (arith, p.below i, q.below i);
      under = λ e a v h s. ⊎_elim (λ z. omega (arith, p.under e a v h z, q.below (16 * e + a))) (λ z. q.under e a v h z) s;
      above = λ e a m h k f. q.above e a m h (p.above e a m h k (λ v z. f v (inl z))) (λ v z. f v (inr z));
    }

pub among_none : (n lo hi : ℕ) (S : ℕ → ℕ → ℕ → ℕ → Type 0) (t : List ℕ) → hi ≤ lo → Weighed n (Among lo hi S) t t
unfolding Among
among_none n lo hi S t h = weighed-none n (Among lo hi S) t (λ e a v s. omega (arith, s.1, s.2))

-- the lines from lo up to j, and then the line j
pub among-more : (n lo j : ℕ) (S : ℕ → ℕ → ℕ → ℕ → Type 0) (t u w : List ℕ) → lo ≤ j
    → Weighed n (Among lo j S) t u → Weighed n (S j) u w → Weighed n (Among lo (j + 1) S) t w
unfolding Among
among-more n lo j S t u w h p q = weighed_as n (λ e a v. Among lo j S e a v ⊎ S j e a v) (Among lo (j + 1) S) t w to from (weighed-then n (Among lo j S) (S j) t u w p q)
  where
    to : (e a v : ℕ) → a < n → Among lo j S e a v ⊎ S j e a v → Among lo (j + 1) S e a v
    to e a v i (inl z) = (z.0, z.1, omega (arith, z.2), z.3)
    to e a v i (inr z) = (j, h, omega arith, z)

    from : (e a v : ℕ) → a < n → Among lo (j + 1) S e a v → Among lo j S e a v ⊎ S j e a v
    from e a v i s = elim (le-or j s.0) [
      | inl z ↦ (let q : s.0 ≡ j = omega (arith, s.2) in inr (subst (λ k. S k e a v) q s.3))
      | inr z ↦ inl (s.0, s.1, z, s.3)
    ]

pub among-end : (n lo j hi : ℕ) (S : ℕ → ℕ → ℕ → ℕ → Type 0) (t u : List ℕ) → j ≤ hi → hi ≤ j → Weighed n (Among lo j S) t u → Weighed n (Among lo hi S) t u
among-end n lo j hi S t u h k w = subst (λ i. Weighed n (Among lo i S) t u) (omega arith) w

-- the lines from lo up to mid, and then those up to hi
pub among_halves : (n lo mid hi : ℕ) (S : ℕ → ℕ → ℕ → ℕ → Type 0) (t u w : List ℕ) → lo ≤ mid → mid ≤ hi
    → Weighed n (Among lo mid S) t u → Weighed n (Among mid hi S) u w → Weighed n (Among lo hi S) t w
unfolding Among
among_halves n lo mid hi S t u w h k p q =
    weighed_as n (λ e a v. Among lo mid S e a v ⊎ Among mid hi S e a v) (Among lo hi S) t w to from (weighed-then n (Among lo mid S) (Among mid hi S) t u w p q)
  where
    to : (e a v : ℕ) → a < n → Among lo mid S e a v ⊎ Among mid hi S e a v → Among lo hi S e a v
    to e a v i (inl z) = (z.0, z.1, omega (arith, z.2), z.3)
    to e a v i (inr z) = (z.0, omega (arith, z.1), z.2, z.3)

    from : (e a v : ℕ) → a < n → Among lo hi S e a v → Among lo mid S e a v ⊎ Among mid hi S e a v
    from e a v i s = elim (le-or mid s.0) [
      | inl z ↦ inr (s.0, z, s.2, s.3)
      | inr z ↦ inl (s.0, s.1, z, s.3)
    ]

-- one piece lowered in each lane
pub weighed-lower : (n lanes at p : ℕ) (sums t u : List ℕ) → n ≤ lanes → lanes ≤ 16 → at ≡ 16 * p
    → Wrote (lowered t at sums) at lanes t u
    → Weighed n (λ e a v. (e ≡ p) × (v ≡ get_or sums a 0)) t u
unfolding lowered
weighed-lower n lanes at p sums t u hn hl ea w =
    record { long = w.long; below = λ i. down i (le-or at i); under = λ e a v h s. hit e a v h s.0 s.1; above = λ e a m h k q. kept e a m h k q (le-or e p) (le-or p e) }
  where
    down : (i : ℕ) → (at ≤ i) ⊎ (i < at) → get_or u i 0 ≤ get_or t i 0
    down i (inr z) = omega (arith, w.kept i (inl z))
    down i (inl z) = elim (le-or (at + lanes) i) [
      | inl y ↦ omega (arith, w.kept i (inr y))
      | inr y ↦
          (let e : at + (i - at) ≡ i = omega arith in
          omega (arith, w.made (i - at) (omega arith), ap (λ k. get_or u k 0) e, ap (λ k. get_or t k 0) e))
    ]

    same : (e a : ℕ) → e ≡ p → at + a ≡ 16 * e + a
    same e a z = omega arith

    hit : (e a v : ℕ) → a < n → e ≡ p → v ≡ get_or sums a 0 → get_or u (16 * e + a) 0 ≤ v
    hit e a v h z y = omega (arith, w.made a (omega arith), ap (λ k. get_or u k 0) (same e a z))

    kept : (e a m : ℕ) → a < n → m ≤ get_or t (16 * e + a) 0 → ((v : ℕ) → (e ≡ p) × (v ≡ get_or sums a 0) → m ≤ v) → (e ≤ p) ⊎ (p < e) → (p ≤ e) ⊎ (e < p)
        → m ≤ get_or u (16 * e + a) 0
    kept e a m h k q (inr z) _ = omega (arith, w.kept (16 * e + a) (inr (omega arith)))
    kept e a m h k q (inl z) (inr y) = omega (arith, w.kept (16 * e + a) (inl (omega arith)))
    kept e a m h k q (inl z) (inl y) =
        let c : e ≡ p = omega arith in
        omega (arith, q (get_or sums a 0) (c, refl), w.made a (omega arith), ap (λ i. get_or u i 0) (same e a c), ap (λ i. get_or t i 0) (same e a c))

-- for each piece in a lane, sums with the least of several rests
pub weighed-least : (n lo hi from to : ℕ) (most : ℕ → ℕ) (E : ℕ → ℕ) (arm : ℕ → ℕ → ℕ) (best : ℕ → ℕ) (rest : ℕ → ℕ → ℕ) (t u : List ℕ) → from + 1 < to
    → ((a : ℕ) → a < n → Lowest (rest a) from to (most a) (best a))
    → ((a : ℕ) → a < n → rest a (from + 1) ≤ most a)
    → Weighed n (Among lo hi (λ b e a v. (e ≡ E b) × (v ≡ arm b a + best a))) t u
    → Weighed n (Among lo hi (λ b e a v. (x : ℕ) × (from < x) × (x < to) × (e ≡ E b) × (v ≡ arm b a + rest a x))) t u
unfolding Among
weighed-least n lo hi from to most E arm best rest t u some low fit w =
    record {
      long = w.long;
      below = w.below;
      under =
          λ e a v h s.
          let z = s.3 in
          omega (arith, w.under e a (arm s.0 a + best a) h (s.0, s.1, s.2, (z.3, refl)), (low a h).each z.0 z.1 z.2, z.4);
      above =
          λ e a m h k q.
          w.above e a m h k
          (λ v s. omega (arith, s.3.1, one s.0 a m h (low a h).one (λ x i j. q (arm s.0 a + rest a x) (s.0, s.1, s.2, (x, i, j, s.3.0, refl)))));
    }
  where
    one : (b a m : ℕ) → a < n → (best a ≡ most a) ⊎ ((x : ℕ) × (from < x) × (x < to) × (best a ≡ rest a x))
        → ((x : ℕ) → from < x → x < to → m ≤ arm b a + rest a x)
        → m ≤ arm b a + best a
    one b a m h (inl z) q = omega (arith, q (from + 1) (omega arith) some, fit a h)
    one b a m h (inr z) q = omega (arith, q z.0 z.1 z.2, z.3)
