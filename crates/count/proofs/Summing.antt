-- A sum that grows by one summand a turn. Assumes nothing.
--
--   Summed, summed-*     == the sum of the first summands, each of which is at most so much
use Prim.Native.Nat.{ℕ, suc, ◌+◌, ◌*◌, ◌≤◌, ◌<◌}
use mathlib.Core.Path.{◌≡◌, sym, ◌∙◌, ap}
use native.Mathlib.Omega.{arith}
use Rattle.sum.specs.Sum.{over}
use Rattle.sum.proofs.Sum.{over_none, over_last}

pub record Summed (f : ℕ → ℕ) (most n i sum : ℕ) : Type 0 where
  pub to : i ≤ n
  pub passed : sum ≡ over 0 i f
  pub small : sum ≤ most * i

pub summed-none : (f : ℕ → ℕ) (most n : ℕ) → Summed f most n 0 0
summed-none f most n = record { to = omega arith; passed = sym (over_none 0 0 f (omega arith)); small = omega arith }

pub summed-more : (f : ℕ → ℕ) (most n i sum v : ℕ) → i < n → (v ≡ f i) × (v ≤ most) → Summed f most n i sum → Summed f most n (i + 1) (sum + v)
summed-more f most n i sum v h e s =
    let z : suc i ≡ i + 1 = omega arith in
    record {
      to = omega arith;
      passed = omega (arith, e.0, s.passed, over_last 0 i f (omega arith), ap (λ k. over 0 k f) z);
      small = omega (arith, e.1, s.small);
    }

pub summed-end : (f : ℕ → ℕ) (most n i sum : ℕ) → n ≤ i → Summed f most n i sum → (sum ≡ over 0 n f) × (sum ≤ most * n)
summed-end f most n i sum h s =
    let z : i ≡ n = omega (arith, s.to) in
    (s.passed ∙ ap (λ k. over 0 k f) z, omega (arith, s.small, ap (λ k. most * k) z))
