-- `shallow::sums::below` meets its contract. Assumes nothing.
use Prim.Native.Nat.{ℕ, zero, suc, ◌+◌, ◌-◌}
use mathlib.Core.Path.{◌≡◌, refl, ap}
use mathlib.Core.List.{List}
use native.Mathlib.Omega.{arith}
use lib.ListN.{get_or}
use Rattle.table.specs.Side.{below_at}
use Rattle.shallow.proofs.sums.below.Goals as goal

below_none : (cs : List ℕ) (near j : ℕ) → j ≡ 0 → 0 ≡ below_at cs near j
unfolding below_at
below_none cs near zero e = refl
below_none cs near (suc j) e = absurd (omega arith)

below-some : (cs : List ℕ) (near j : ℕ) → (j ≡ 0 → ⊥) → get_or cs (near + (j - 1)) 0 ≡ below_at cs near j
unfolding below_at
below-some cs near zero n = absurd (n refl)
below-some cs near (suc j) n = (let e : near + (suc j - 1) ≡ near + j = omega arith in ap (λ k. get_or cs k 0) e)

pub returns-then-j-eq0 : goal.returns-then-j-eq0
returns-then-j-eq0 k = below_none _ _ _ k.if-j-eq0.true

pub returns : goal.returns
returns k = below-some _ _ _ k.if-j-eq0.false
