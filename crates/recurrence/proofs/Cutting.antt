-- Cuttings and the recurrence: the cost is the least price of any cutting. Assumes nothing.
--
--   no_cheaper   == no cutting of a piece is cheaper than its cost, if no cut that may be made leads to parts that cost less
--   attained     == one cutting has the shots of the recurrence, so that its price is the cost, if each mixed piece may be cut
--   no_cheaper_mixed   == where mixed pieces alone may be cut, no cutting is cheaper, whatever the charges
use Prim.Native.Nat.{ℕ, ◌≤◌}
use mathlib.Core.Path.{◌≡◌, refl, ap₂}
use mathlib.Core.List.{List, [], ◌∷◌, ◌++◌}
use native.Mathlib.Omega.{arith}
use native.Mathlib.Nat.{le_trans}
use Rattle.sum.specs.Sum.{sum_of, All, join}
use Rattle.sum.proofs.Lists.{sum_of-append, All-at}
use Rattle.recurrence.specs.Scheme.{mixed, Scheme, Ends}
use Rattle.recurrence.specs.Cutting.{Cutting, Cuttings, leave, shoot, cut, none, more, shots_in, shots_among, price}
use Rattle.recurrence.proofs.Scheme.{shots_of, cost_of, cost-outside, cost-full, cost-mixed, along}

module _ {P K : Type 0} (S : Scheme P K) (size : P → ℕ) (E : Ends S size) (May : P → Type 0) where
  module _ (fair : (p : P) → May p → All (λ k. cost_of S size E p ≤ sum_of (cost_of S size E) (S.parts p k)) (S.cuts p)) where
    mutual
      unfolding shots_in sum_of

      pub no_cheaper : {p : P} (t : Cutting S May p) → cost_of S size E p ≤ sum_of S.charge (shots_in S May t)
      no_cheaper (leave {p = p} e) = omega (arith, cost-outside S size E p e)
      no_cheaper (shoot {p = p} e) = omega (arith, cost-full S size E p e)
      no_cheaper (cut {p = p} k a m t) =
          le_trans (All-at (λ k. cost_of S size E p ≤ sum_of (cost_of S size E) (S.parts p k)) m (fair p a)) (none_cheaper t)

      none_cheaper : {l : List P} (t : Cuttings S May l) → sum_of (cost_of S size E) l ≤ sum_of S.charge (shots_among S May t)
      none_cheaper none = omega arith
      none_cheaper (more t ts) = omega (arith, no_cheaper t, none_cheaper ts, sum_of-append S.charge (shots_in S May t) (shots_among S May ts))

  module _ (may : (p : P) → S.kind p ≡ mixed → May p) where
    -- a cutting of the piece that has these shots
    Cut-so : P → List P → Type 0
    Cut-so p l = (t : Cutting S May p) × (shots_in S May t ≡ l)

    together : (l : List P) → All (λ q. Cut-so q (shots_of S size E q)) l → (t : Cuttings S May l) × (shots_among S May t ≡ join (shots_of S size E) l)
    unfolding shots_among join Cut-so
    together [] h = (none, refl)
    together (p ∷ l) h = let i = together l h.1 in (more h.0.0 i.0, ap₂ ◌++◌ h.0.1 i.1)

    pub attained : (p : P) → (t : Cutting S May p) × (shots_in S May t ≡ shots_of S size E p)
    unfolding shots_in Cut-so
    attained =
        along S size E Cut-so (λ p e. (leave e, refl)) (λ p e. (shoot e, refl))
        (λ p k e m h. let t = together (S.parts p k) h in (cut k (may p e) m t.0, t.1))

module _ {P K : Type 0} (S : Scheme P K) (size : P → ℕ) (E : Ends S size) where
  pub no_cheaper_mixed : {p : P} (t : Cutting S (λ q. S.kind q ≡ mixed) p) → cost_of S size E p ≤ price S (λ q. S.kind q ≡ mixed) t
  unfolding price
  no_cheaper_mixed t = no_cheaper S size E (λ q. S.kind q ≡ mixed) (cost-mixed S size E) t
