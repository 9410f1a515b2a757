-- Laws of the sides of a piece in memory.
--
--   exposed_at_lem      : a stretch whose cell within is inside and whose cell across is not counts whole
--   exposed-within  : one whose cell within is not inside counts nothing
--   exposed-across  : nor does one whose cell across is inside
--   exposed-none    : no stretch, no length
--   exposed-more    : one stretch more
--   exposed-all     : all stretches make the side
--   counted_none, counted-both : sides that are spared, and sides that are not
-- Assumes nothing.
use Prim.Native.Nat.{ℕ, ◌+◌, ◌*◌, ◌-◌, ◌≤◌}
use mathlib.Core.Path.{◌≡◌, ap, ap₂, sym, ◌∙◌}
use mathlib.Core.Bool.{Bool, true, false, cond}
use mathlib.Core.List.{List}
use native.Mathlib.Omega.{arith}
use native.Mathlib.Numerals.{add-one}
use lib.ListN.{get_or}
use borrow.Author.Tests.{eq-eqb, ne_eqb}
use Rattle.sum.proofs.Sum.{over_none, over_last}
use Rattle.sliver.specs.Sides.{exposed_at, exposed_in, both_in, counted_in}
use Rattle.sliver.specs.declared.Side.{Side}
use Rattle.sliver.specs.declared.Band.{Band}

module _ (near far low high : ℕ) where
  pub exposed_at_lem : near ≡ 1 → far ≡ 0 → high - low ≡ exposed_at near far low high
  unfolding exposed_at
  exposed_at_lem n f = simp (eq-eqb near 1 n, eq-eqb far 0 f)

  pub exposed-within : (near ≡ 1 → ⊥) → 0 ≡ exposed_at near far low high
  unfolding exposed_at
  exposed-within n = simp (ne_eqb near 1 n)

  pub exposed-across : near ≡ 1 → (far ≡ 0 → ⊥) → 0 ≡ exposed_at near far low high
  unfolding exposed_at
  exposed-across n f = simp (eq-eqb near 1 n, ne_eqb far 0 f)

module _ (cells lines : List ℕ) (near far step from : ℕ) where
  pub exposed-none : 0 ≡ exposed_in cells lines (record { near = near; far = far; step = step; from = record { 0 = from }; to = record { 0 = from } })
  unfolding exposed_in
  exposed-none = sym (over_none from from _ (omega arith))

  pub exposed-more : (k : ℕ) {sum low high v : ℕ} → from ≤ k
      → sum ≡ exposed_in cells lines (record { near = near; far = far; step = step; from = record { 0 = from }; to = record { 0 = k } })
      → low ≡ get_or lines k 0
      → high ≡ get_or lines (k + 1) 0
      → v ≡ exposed_at (get_or cells (near + step * k) 0) (get_or cells (far + step * k) 0) low high
      → sum + v ≡ exposed_in cells lines (record { near = near; far = far; step = step; from = record { 0 = from }; to = record { 0 = k + 1 } })
  unfolding exposed_in
  exposed-more k h e l u f =
      let v = f ∙ ap₂ (exposed_at (get_or cells (near + step * k) 0) (get_or cells (far + step * k) 0)) l u in
      rw (add-one k, over_last, ← e, ← v)

pub exposed-all : (cells lines : List ℕ) (s : Side) (k : ℕ) {sum : ℕ} → k ≤ s.to.0 → s.to.0 ≤ k
    → sum ≡ exposed_in cells lines (record { near = s.near; far = s.far; step = s.step; from = s.from; to = record { 0 = k } })
    → sum ≡ exposed_in cells lines s
exposed-all cells lines s k h q e =
    let i : k ≡ s.to.0 = omega arith in
    e ∙ ap (λ (n : ℕ). exposed_in cells lines (record { near = s.near; far = s.far; step = s.step; from = s.from; to = record { 0 = n } })) i

-- sides that are spared, and sides that are not
module _ (cells lines : List ℕ) (b : Band) (t : Bool) where
  pub counted_none : t ≡ true → 0 ≡ counted_in cells lines b t
  unfolding counted_in
  counted_none e = sym (ap (λ t. cond t 0 (both_in cells lines b)) e)

  pub counted-both : {r : ℕ} → t ≡ false → r ≡ both_in cells lines b → r ≡ counted_in cells lines b t
  unfolding counted_in
  counted-both e f = f ∙ sym (ap (λ t. cond t 0 (both_in cells lines b)) e)
