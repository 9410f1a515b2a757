-- Lowering the numbers of a list: what a step of the weighing promises, and how steps compose. Assumes nothing.
--
--   lowered_none, lowered_as, lowered-then  == nothing weighed; the same things weighed, said otherwise; one step after another
--   among_none, among-more, among-end       == a loop: no line yet, one line more, the end
--   lowered-set                             == one number lowered by two
use Prim.Native.Nat.{ℕ, ◌+◌, ◌≤◌, ◌<◌, min}
use mathlib.Core.Path.{◌≡◌, refl, sym, ◌∙◌, ap, subst}
use mathlib.Core.Logic.{◌⊎◌, inl, inr, ⊎_elim}
use mathlib.Core.List.{List}
use native.Mathlib.Omega.{arith}
use lib.ListN.{length, get_or, set, length-set}
use lib.Seq.{get_or-set_same, get_or-set_other}
use Rattle.sum.proofs.Sum.{le-or}
use Rattle.table.proofs.Pairs.{Dec-eq}
use Rattle.lowering.specs.Lowered.{Lowered, Among}

pub lowered_none : (S : ℕ → ℕ → Type 0) (t : List ℕ) → ((e v : ℕ) → S e v → ⊥) → Lowered S t t
lowered_none S t none =
    record { long = refl; below = λ i. omega arith; under = λ e v s. absurd (none e v s); above = λ e n h q. h }

pub lowered_as : (S T : ℕ → ℕ → Type 0) (t u : List ℕ) → ((e v : ℕ) → S e v → T e v) → ((e v : ℕ) → T e v → S e v) → Lowered S t u → Lowered T t u
lowered_as S T t u to from w =
    record {
      long = w.long;
      below = w.below;
      under = λ e v s. w.under e v (from e v s);
      above = λ e n h q. w.above e n h (λ v s. q v (to e v s));
    }

pub lowered-then : (S T : ℕ → ℕ → Type 0) (t u w : List ℕ) → Lowered S t u → Lowered T u w → Lowered (λ e v. S e v ⊎ T e v) t w
lowered-then S T t u w p q =
    record {
      long = q.long ∙ p.long;
      below = λ i. omega (arith, p.below i, q.below i);
      under = λ e v s. ⊎_elim (λ z. omega (arith, p.under e v z, q.below e)) (λ z. q.under e v z) s;
      above = λ e n h f. q.above e n (p.above e n h (λ v z. f v (inl z))) (λ v z. f v (inr z));
    }

pub among_none : (lo hi : ℕ) (S : ℕ → ℕ → ℕ → Type 0) (t : List ℕ) → hi ≤ lo → Lowered (Among lo hi S) t t
unfolding Among
among_none lo hi S t h = lowered_none (Among lo hi S) t (λ e v s. omega (arith, s.1, s.2))

-- the lines from lo up to j, and then the line j
pub among-more : (lo j : ℕ) (S : ℕ → ℕ → ℕ → Type 0) (t u w : List ℕ) → lo ≤ j
    → Lowered (Among lo j S) t u → Lowered (S j) u w → Lowered (Among lo (j + 1) S) t w
unfolding Among
among-more lo j S t u w h p q = lowered_as (λ e v. Among lo j S e v ⊎ S j e v) (Among lo (j + 1) S) t w to from (lowered-then (Among lo j S) (S j) t u w p q)
  where
    to : (e v : ℕ) → Among lo j S e v ⊎ S j e v → Among lo (j + 1) S e v
    to e v (inl z) = (z.0, z.1, omega (arith, z.2), z.3)
    to e v (inr z) = (j, h, omega arith, z)

    from : (e v : ℕ) → Among lo (j + 1) S e v → Among lo j S e v ⊎ S j e v
    from e v s = elim (le-or j s.0) [
      | inl z ↦ (let q : s.0 ≡ j = omega (arith, s.2) in inr (subst (λ k. S k e v) q s.3))
      | inr z ↦ inl (s.0, s.1, z, s.3)
    ]

pub among-end : (lo j hi : ℕ) (S : ℕ → ℕ → ℕ → Type 0) (t u : List ℕ) → j ≤ hi → hi ≤ j → Lowered (Among lo j S) t u → Lowered (Among lo hi S) t u
among-end lo j hi S t u h k w = subst (λ i. Lowered (Among lo i S) t u) (omega arith) w

-- the number at a place, lowered by two others
pub lowered-set : (S : ℕ → ℕ → Type 0) (t : List ℕ) {at x y v : ℕ} → at < length t → v ≡ min (get_or t at 0) (min x y)
    → S at x → S at y → ((e n : ℕ) → S e n → (e ≡ at) × ((n ≡ x) ⊎ (n ≡ y)))
    → Lowered S t (set t at v)
lowered-set S t {at} {x} {y} {v} h q sx sy only =
    record {
      long = length-set t at v;
      below = λ i. down i (Dec-eq i at);
      under = λ e n s. hit e n (only e n s).0 (only e n s).1;
      above = λ e n k f. kept e n k f (Dec-eq e at);
    }
  where
    here : (i : ℕ) → i ≡ at → get_or (set t at v) i 0 ≡ v
    here i e = ap (λ k. get_or (set t at v) k 0) e ∙ get_or-set_same t at v 0 h

    down : (i : ℕ) → (i ≡ at) ⊎ (i ≡ at → ⊥) → get_or (set t at v) i 0 ≤ get_or t i 0
    down i (inl e) = omega (arith, here i e, ap (λ k. get_or t k 0) e)
    down i (inr e) = omega (arith, get_or-set_other t at i v 0 e)

    hit : (e n : ℕ) → e ≡ at → (n ≡ x) ⊎ (n ≡ y) → get_or (set t at v) e 0 ≤ n
    hit e n z (inl w) = omega (arith, here e z)
    hit e n z (inr w) = omega (arith, here e z)

    kept : (e n : ℕ) → n ≤ get_or t e 0 → ((w : ℕ) → S e w → n ≤ w) → (e ≡ at) ⊎ (e ≡ at → ⊥) → n ≤ get_or (set t at v) e 0
    kept e n k f (inr z) = omega (arith, get_or-set_other t at e v 0 z)
    kept e n k f (inl z) =
        let a : n ≤ x = f x (subst (λ i. S i x) (sym z) sx) in
        let b : n ≤ y = f y (subst (λ i. S i y) (sym z) sy) in
        omega (arith, here e z, ap (λ i. get_or t i 0) z)
