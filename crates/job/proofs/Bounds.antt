-- A number of a job, held to its range. Assumes nothing.
--
--   then_cases       == what holds of both ways that a reading after another can go
--   both-le, some-lt, none_lt == two tests at once, of two numbers each
--   value-last       == a sound number that is out of range is told by 10 and its last byte
--   value-told       == what reading a number from low to high finds is what the scope's words say of the bytes there: a sound number in
--                       range; or, with the byte at fault, the fault of its bytes, or 10 of a sound one out of range
use Prim.Native.Nat.{ℕ, ◌+◌, ◌-◌, ◌<◌, ◌≤◌}
use mathlib.Core.Path.{◌≡◌, refl, sym, ap, subst}
use mathlib.Core.Logic.{◌⊎◌, inl, inr}
use mathlib.Core.List.{List}
use mathlib.Core.Bool.{Bool, true, false, ◌&&◌, true≢false}
use native.Mathlib.Omega.{arith}
use lib.Dec.{leb}
use borrow.Author.Tests.{leb-true, leb-false}
use Rattle.refusal.specs.declared.Refusal.{Refusal}
use Rattle.refusal.specs.declared.Refusal.TheVariants.{Range}
use Rattle.number.specs.Reading.{Reading, read, fault, and_then}
use Rattle.number.specs.Number.{number}
use Rattle.number.specs.Faults.{Sound}
use Rattle.number.proofs.Number.{cond_cases, number_exactly, sound_exactly}
use Rattle.job.specs.Job.{value}
use Rattle.job.specs.Faults.{Ranged}

then_cases : {A B : Type 0} (P : Reading B → Type 0) (u : Reading A) (f : A → ℕ → Reading B)
    → ((a : A) (n : ℕ) → u ≡ read a n → P (f a n)) → ((r : Refusal) (o : ℕ) → u ≡ fault r o → P (fault r o)) → P (and_then u f)
then_cases P (read a n) f g h = g a n refl
then_cases P (fault r o) f g h = h r o refl

-- two numbers, each with what it may be at most
module _ (a b c d : ℕ) where
  pub both-le : (leb a b && leb c d) ≡ true → (a ≤ b) × (c ≤ d)
  both-le e = go (leb a b) refl (leb c d) refl e
    where
      go : (x : Bool) → leb a b ≡ x → (y : Bool) → leb c d ≡ y → (x && y) ≡ true → (a ≤ b) × (c ≤ d)
      go true p true q e = (leb-true a b p, leb-true c d q)
      go true p false q e = absurd (true≢false (sym e))
      go false p y q e = absurd (true≢false (sym e))

  pub some-lt : (leb a b && leb c d) ≡ false → (b < a) ⊎ (d < c)
  some-lt e = go (leb a b) refl (leb c d) refl e
    where
      go : (x : Bool) → leb a b ≡ x → (y : Bool) → leb c d ≡ y → (x && y) ≡ false → (b < a) ⊎ (d < c)
      go true p true q e = absurd (true≢false e)
      go true p false q e = inr (leb-false c d q)
      go false p y q e = inl (leb-false a b p)

  pub none_lt : (leb a b && leb c d) ≡ true → (b < a) ⊎ (d < c) → ⊥
  none_lt e (inl h) = omega (arith, both-le e)
  none_lt e (inr h) = omega (arith, both-le e)

module _ (s : List ℕ) (low high at : ℕ) where
  pub value-last : {v last : ℕ} → Sound s at v (last + 1) → (v < low) ⊎ (high < v) → value s low high at ≡ fault Range last
  unfolding value
  value-last {v} {last} k h =
      let e : number s at ≡ read v (last + 1) = (sound_exactly s at v (last + 1)).1 k in
      let q : (leb low v && leb v high) ≡ false = outside (leb low v && leb v high) refl in
      let z : last + 1 - 1 ≡ last = omega arith in
      rw (e, q) (ap (fault Range) z)
    where
      outside : (b : Bool) → (leb low v && leb v high) ≡ b → b ≡ false
      outside true a = absurd (none_lt low v v high a h)
      outside false a = refl

  pub value-told : Ranged s low high at (value s low high at)
  unfolding value
  value-told =
      then_cases (Ranged s low high at) (number s at) _
      (λ v next e.
      let k = (sound_exactly s at v next).0 e in
      cond_cases (Ranged s low high at) (leb low v && leb v high) _ _
      (λ a. (k, both-le low v v high a))
      (λ a.
      let z : next ≡ next - 1 + 1 = omega (arith, k.past) in
      inr (refl, (v, subst (Sound s at v) z k, some-lt low v v high a))))
      (λ r o e. inl ((number_exactly s at (fault r o)).0 e))
