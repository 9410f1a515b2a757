-- Laws of runs of numbers and of the least of several. Assumes nothing.
--
--   zeros_at                 == a list of zeros has a zero at every place
--   wrote_none, wrote_more   == a run that is written from the front, one store after the other
--   wrote_end                == where the run is at its end
--   apart_more               == weighing a cut of several pieces: one piece more
--   bare-*                   == the three ways of a stretch: outside, exposed, covered
--   lowest-none, lowest-more == the least so far, with no line weighed yet, and with one more
--   lowest-same              == for equal values, the same least
--   lowest-between           == with no line between
use Prim.Native.Nat.{ℕ, zero, suc, ◌+◌, ◌≤◌, ◌<◌, min}
use mathlib.Core.Path.{◌≡◌, refl, sym, ◌∙◌, ap, subst}
use mathlib.Core.Logic.{◌⊎◌, inl, inr}
use mathlib.Core.List.{List}
use native.Mathlib.Omega.{arith}
use lib.ListN.{length, get_or, set, replicate, length-set}
use lib.Seq.{get_or-set_same, get_or-set_other}
use borrow.Author.Tests.{eq-eqb, ne_eqb}
use Rattle.sum.proofs.Sum.{le-or}
use Rattle.table.specs.Run.{Wrote, bare, weighed_apart, Lowest}

-- past its end too, a list of zeros has a zero
pub zeros_at : (n i : ℕ) → ◌≡◌ {A = ℕ} (get_or (replicate n 0) i 0) 0
zeros_at zero i = refl
zeros_at (suc n) zero = refl
zeros_at (suc n) (suc i) = zeros_at n i

pub wrote_none : (f : ℕ → ℕ) (at : ℕ) (t : List ℕ) → Wrote f at 0 t t
wrote_none f at t = record { long = refl; made = λ i h. absurd (omega arith); kept = λ k h. refl }

pub wrote_more : (f : ℕ → ℕ) (at i : ℕ) (t u : List ℕ) (v : ℕ) → at + i < length u → v ≡ f i → Wrote f at i t u → Wrote f at (i + 1) t (set u (at + i) v)
wrote_more f at i t u v room e w =
    record {
      long = length-set u (at + i) v ∙ w.long;
      made =
          λ j h. elim (le-or i j) [
            | inl q ↦
                (let z : j ≡ i = omega arith in
                ap (λ k. get_or (set u (at + i) v) (at + k) 0) z ∙ get_or-set_same u (at + i) v 0 room ∙ e ∙ ap f (sym z))
            | inr q ↦ get_or-set_other u (at + i) (at + j) v 0 (λ z. omega arith) ∙ w.made j q
          ];
      kept = λ k h. get_or-set_other u (at + i) k v 0 (λ z. apart k h z) ∙ w.kept k (before k h);
    }
  where
    apart : (k : ℕ) → (k < at) ⊎ (at + (i + 1) ≤ k) → k ≡ at + i → ⊥
    apart k (inl h) z = omega arith
    apart k (inr h) z = omega arith

    before : (k : ℕ) → (k < at) ⊎ (at + (i + 1) ≤ k) → (k < at) ⊎ (at + i ≤ k)
    before k (inl h) = inl h
    before k (inr h) = inr (omega arith)

pub wrote_end : (f : ℕ → ℕ) (at i n : ℕ) (t u : List ℕ) → i ≤ n → n ≤ i → Wrote f at i t u → Wrote f at n t u
wrote_end f at i n t u h k w = subst (λ m. Wrote f at m t u) (omega arith) w

pub apart_more : (t side u : List ℕ) (low high n i r : ℕ) → n ≤ length t → i < n
    → r ≡ min (get_or u i 0) (get_or side (low + i) 0 + get_or side (high + i) 0)
    → Wrote (weighed_apart t side low high) 0 i t u
    → Wrote (weighed_apart t side low high) 0 (i + 1) t (set u i r)
unfolding weighed_apart
apart_more t side u low high n i r m l e w =
    let z : 0 + i ≡ i = omega arith in
    subst (λ k. Wrote (weighed_apart t side low high) 0 (i + 1) t (set u k r)) z
    (wrote_more (weighed_apart t side low high) 0 i t u r (omega (arith, w.long)) (omega (arith, w.kept i (inr (omega arith)))) w)

-- the three ways of a stretch
pub bare-outside : (near far len : ℕ) → near ≡ 0 → (0 ≡ bare near far len) × (0 ≤ len)
unfolding bare
bare-outside near far len e = (rw (eq-eqb near 0 e), omega arith)

pub bare-exposed : (near far len : ℕ) → (near ≡ 0 → ⊥) → far ≡ 0 → (len ≡ bare near far len) × (len ≤ len)
unfolding bare
bare-exposed near far len n e = (rw (ne_eqb near 0 n, eq-eqb far 0 e), omega arith)

pub bare-covered : (near far len : ℕ) → (near ≡ 0 → ⊥) → (far ≡ 0 → ⊥) → (0 ≡ bare near far len) × (0 ≤ len)
unfolding bare
bare-covered near far len n e = (rw (ne_eqb near 0 n, ne_eqb far 0 e), omega arith)

pub lowest-none : (f : ℕ → ℕ) (a m : ℕ) → Lowest f a (a + 1) m m
lowest-none f a m = record { first = omega arith; each = λ j h k. absurd (omega arith); one = inl refl }

pub lowest-more : (f : ℕ → ℕ) (a j m best v : ℕ) → a < j → v ≡ f j → Lowest f a j m best → Lowest f a (j + 1) m (min best v)
lowest-more f a j m best v h e l =
    record {
      first = omega (arith, l.first);
      each =
          λ k p q. elim (le-or j k) [
            | inl s ↦ (let z : k ≡ j = omega arith in omega (arith, ap f z))
            | inr s ↦ omega (arith, l.each k p s)
          ];
      one = go (le-or best v) l.one;
    }
  where
    go : (best ≤ v) ⊎ (v < best) → (best ≡ m) ⊎ ((k : ℕ) × (a < k) × (k < j) × (best ≡ f k))
        → (min best v ≡ m) ⊎ ((k : ℕ) × (a < k) × (k < j + 1) × (min best v ≡ f k))
    go (inr q) o = inr (j, h, omega arith, omega arith)
    go (inl q) (inl z) = inl (omega arith)
    go (inl q) (inr z) = inr (z.0, z.1, omega (arith, z.2), omega (arith, z.3))

pub lowest-same : (f g : ℕ → ℕ) (a c m n r s : ℕ) → ((j : ℕ) → a < j → j < c → f j ≡ g j) → m ≡ n → r ≡ s → Lowest f a c m r → Lowest g a c n s
lowest-same f g a c m n r s h e z l =
    record {
      first = omega (arith, l.first);
      each = λ j p q. omega (arith, l.each j p q, h j p q);
      one = go l.one;
    }
  where
    go : (r ≡ m) ⊎ ((j : ℕ) × (a < j) × (j < c) × (r ≡ f j)) → (s ≡ n) ⊎ ((j : ℕ) × (a < j) × (j < c) × (s ≡ g j))
    go (inl w) = inl (omega arith)
    go (inr w) = inr (w.0, w.1, w.2, omega (arith, w.3, h w.0 w.1 w.2))

pub lowest-between : (f : ℕ → ℕ) (a c m : ℕ) → c ≤ a + 1 → Lowest f a c m m
lowest-between f a c m h = record { first = omega arith; each = λ j p q. absurd (omega arith); one = inl refl }
