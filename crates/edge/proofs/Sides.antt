-- The sides of a shot, by its four numbers. Assumes nothing.
--
--   low_end, high_end a s  == where the shot s begins and ends along the axis a
--   in_span a s k         == k lies between its ends along the other axis
--   facing-shot          == a stretch lies on the low side of a shot exactly if it stands where the shot begins, within its span; on the
--                           high side exactly if it stands where it ends
use Prim.Native.Nat.{ℕ, zero, suc, ◌≤◌, ◌<◌}
use mathlib.Core.Path.{◌≡◌, refl, ◌∙◌, ap₂}
use mathlib.Core.Bool.{Bool, true, false, not, cond, ◌&&◌}
use mathlib.Core.Logic.{◌⊎◌, inl, inr}
use native.Mathlib.Omega.{arith}
use lib.Dec.{leb, ltb, eqb}
use borrow.Author.Tests.{eq-eqb, ne_eqb, le-leb, lt-leb, lt-ltb, le-ltb}
use Rattle.sum.proofs.Sum.{le-or}
use Rattle.figure.specs.declared.Axis.{Axis}
use Rattle.figure.specs.declared.Axis.TheVariants.{X, Y}
use Rattle.demands.specs.Square.{prior, exposed}
use Rattle.shot.specs.Shot.{Shot, holds}
use Rattle.edge.specs.Edge.{other, seen, beneath, beyond}
use Rattle.edge.specs.Landing.{low_side, high_side, facing, shape}

abbrev pub low_end : Axis → Shot → ℕ
low_end X s = s.xlow
low_end Y s = s.ylow

abbrev pub high_end : Axis → Shot → ℕ
high_end X s = s.xhigh
high_end Y s = s.yhigh

abbrev pub in_span : Axis → Shot → ℕ → Bool
in_span a s k = leb (low_end (other a) s) k && ltb k (high_end (other a) s)

abbrev pub in_depth : Axis → Shot → ℕ → Bool
in_depth a s q = leb (low_end a s) q && ltb q (high_end a s)

and-turn : (s t : Bool) → (s && t) ≡ (t && s)
and-turn true true = refl
and-turn true false = refl
and-turn false true = refl
and-turn false false = refl

seen-shot : (a : Axis) (s : Shot) (q k : ℕ) → seen a (shape s) q k ≡ (in_depth a s q && in_span a s k)
unfolding shape holds
seen-shot X s q k = refl
seen-shot Y s q k = and-turn (leb s.xlow k && ltb k s.xhigh) (leb s.ylow q && ltb q s.yhigh)

beneath-shot : (a : Axis) (s : Shot) (p k : ℕ) → beneath a (shape s) p k ≡ (prior (in_depth a s) p && in_span a s k)
unfolding beneath
beneath-shot a s zero k = refl
beneath-shot a s (suc p) k = seen-shot a s p k

module _ (low high : ℕ) (some : low < high) where
  depth : ℕ → Bool
  depth q = leb low q && ltb q high

  -- at the low end, at the high end, and elsewhere
  depth_low : (p : ℕ) → exposed (depth p) (prior depth p) ≡ eqb low p
  unfolding depth exposed
  depth_low zero = elim (le-or low 0) [
    | inl q ↦ rw (le-leb low 0 q, lt-ltb 0 high (omega arith), eq-eqb low 0 (omega arith))
    | inr q ↦ rw (lt-leb low 0 q, ne_eqb low 0 (λ z. omega arith))
  ]
  depth_low (suc p) = go (le-or low p) (le-or low (suc p)) (le-or high (suc p)) (le-or high p)
    where
      go : (low ≤ p) ⊎ (p < low) → (low ≤ suc p) ⊎ (suc p < low) → (high ≤ suc p) ⊎ (suc p < high) → (high ≤ p) ⊎ (p < high)
          → ((leb low (suc p) && ltb (suc p) high) && not (leb low p && ltb p high)) ≡ eqb low (suc p)
      go (inl a) b (inl c) d =
          rw (le-leb low (suc p) (omega arith), le-ltb (suc p) high c, ne_eqb low (suc p) (λ z. omega arith))
      go (inl a) b (inr c) d =
          rw (le-leb low (suc p) (omega arith), lt-ltb (suc p) high c, le-leb low p a, lt-ltb p high (omega arith), ne_eqb low (suc p) (λ z. omega arith))
      go (inr a) (inl b) c d =
          rw (le-leb low (suc p) b, lt-ltb (suc p) high (omega arith), lt-leb low p a, eq-eqb low (suc p) (omega arith))
      go (inr a) (inr b) c d = rw (lt-leb low (suc p) b, ne_eqb low (suc p) (λ z. omega arith))

  depth_high : (p : ℕ) → exposed (prior depth p) (depth p) ≡ eqb high p
  unfolding depth exposed
  depth_high zero = rw (ne_eqb high 0 (λ z. omega arith))
  depth_high (suc p) = go (le-or low p) (le-or high (suc p)) (le-or high p)
    where
      go : (low ≤ p) ⊎ (p < low) → (high ≤ suc p) ⊎ (suc p < high) → (high ≤ p) ⊎ (p < high)
          → ((leb low p && ltb p high) && not (leb low (suc p) && ltb (suc p) high)) ≡ eqb high (suc p)
      go (inr a) c d = rw (lt-leb low p a, ne_eqb high (suc p) (λ z. omega arith))
      go (inl a) c (inl d) = rw (le-leb low p a, le-ltb p high d, ne_eqb high (suc p) (λ z. omega arith))
      go (inl a) (inl c) (inr d) =
          rw (le-leb low p a, lt-ltb p high d, le-leb low (suc p) (omega arith), le-ltb (suc p) high c, eq-eqb high (suc p) (omega arith))
      go (inl a) (inr c) (inr d) =
          rw (le-leb low p a, lt-ltb p high d, le-leb low (suc p) (omega arith), lt-ltb (suc p) high c, ne_eqb high (suc p) (λ z. omega arith))

pub facing-shot : (a : Axis) (s : Shot) (p k : ℕ) → low_end a s < high_end a s
    → facing a (shape s) p k
    ≡ cond (in_span a s k) (cond (eqb (low_end a s) p) (low_side a) (cond (eqb (high_end a s) p) (high_side a) 0)) 0
unfolding facing beyond
facing-shot a s p k h =
    ap₂ (λ u v. cond (exposed u v) (low_side a) (cond (exposed v u) (high_side a) 0)) (seen-shot a s p k) (beneath-shot a s p k)
    ∙ go (in_span a s k)
  where
    low-here : (p : ℕ) → exposed (in_depth a s p) (prior (in_depth a s) p) ≡ eqb (low_end a s) p
    low-here p = unfold depth in depth_low (low_end a s) (high_end a s) h p

    high-here : (p : ℕ) → exposed (prior (in_depth a s) p) (in_depth a s p) ≡ eqb (high_end a s) p
    high-here p = unfold depth in depth_high (low_end a s) (high_end a s) h p

    none : (u v : Bool) → cond (exposed (u && false) (v && false)) (low_side a) (cond (exposed (v && false) (u && false)) (high_side a) 0) ≡ 0
    none true true = unfold exposed in refl
    none true false = unfold exposed in refl
    none false true = unfold exposed in refl
    none false false = unfold exposed in refl

    all : (u v : Bool)
        → cond (exposed (u && true) (v && true)) (low_side a) (cond (exposed (v && true) (u && true)) (high_side a) 0)
        ≡ cond (exposed u v) (low_side a) (cond (exposed v u) (high_side a) 0)
    all true true = refl
    all true false = refl
    all false true = refl
    all false false = refl

    go : (t : Bool)
        → cond (exposed (in_depth a s p && t) (prior (in_depth a s) p && t)) (low_side a)
        (cond (exposed (prior (in_depth a s) p && t) (in_depth a s p && t)) (high_side a) 0)
        ≡ cond t (cond (eqb (low_end a s) p) (low_side a) (cond (eqb (high_end a s) p) (high_side a) 0)) 0
    go false = none (in_depth a s p) (prior (in_depth a s) p)
    go true =
        all (in_depth a s p) (prior (in_depth a s) p)
        ∙ ap₂ (λ u v. cond u (low_side a) (cond v (high_side a) 0)) (low-here p) (high-here p)
