-- A header that is read is in range. This stands before all laws, so that a reader with wider ranges is refused here. Assumes nothing.
--
--   value-most       == a value that is read is no more than it may be
--   three-most       == three values that are read as a header, each no more than it may be
--   Headed, header-range == a header that is read has a threshold and a weight up to 1,000, and 255 figures at most
use Prim.Native.Nat.{ℕ, ◌≤◌}
use mathlib.Core.Path.{◌≡◌, subst}
use mathlib.Core.List.{List}
use Rattle.number.specs.Reading.{Reading, read, and_then}
use Rattle.number.proofs.Reading.{then_inv}
use Rattle.job.specs.Job.{value, Header, header}
use Rattle.job.specs.Faults.{Ranged}
use Rattle.job.proofs.Bounds.{value-told}

module _ (s : List ℕ) where
  pub value-most : (low high at : ℕ) {v next : ℕ} → value s low high at ≡ read v next → v ≤ high
  value-most low high at {v} {next} e =
      let h : Ranged s low high at (read v next) = subst (Ranged s low high at) e (value-told s low high at) in
      h.1.1

  -- the three numbers of a header, each no more than it may be
  module _ (a b c : ℕ) where
    abbrev third : ℕ → ℕ → ℕ → Reading Header
    third t w q = and_then (value s 0 c q) (λ k next. read (record { threshold = t; weight = w; count = k }) next)

    abbrev second : ℕ → ℕ → Reading Header
    second t p = and_then (value s 0 b p) (third t)

    three-most : {h : Header} {next : ℕ} → and_then (value s 0 a 0) second ≡ read h next
        → (h.threshold ≤ a) × (h.weight ≤ b) × (h.count ≤ c)
    three-most {h} {next} e =
        let i = then_inv second (value s 0 a 0) e in
        let j = then_inv (third i.0) (value s 0 b i.1) i.3 in
        let k = then_inv (λ k next. read (record { threshold = i.0; weight = j.0; count = k }) next) (value s 0 c j.1) j.3 in
        let made : Header = record { threshold = i.0; weight = j.0; count = k.0 } in
        let z : made ≡ h = cc in (
          subst (λ (g : Header). g.threshold ≤ a) z (value-most 0 a 0 i.2),
          subst (λ (g : Header). g.weight ≤ b) z (value-most 0 b i.1 j.2),
          subst (λ (g : Header). g.count ≤ c) z (value-most 0 c j.1 k.2),
        )

pub record Headed (h : Header) : Type 0 where
  pub threshold : h.threshold ≤ 1000
  pub weight : h.weight ≤ 1000
  pub count : h.count ≤ 255

pub header-range : (s : List ℕ) {h : Header} {next : ℕ} → header s ≡ read h next → Headed h
unfolding header
header-range s e = let m = three-most s _ _ _ e in record { threshold = m.0; weight = m.1; count = m.2 }
