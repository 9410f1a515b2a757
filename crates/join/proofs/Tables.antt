-- Laws of the tables that the functions over the lent slice make, in the steps of the code.
use Prim.Native.Nat.{ℕ, suc, ◌+◌, ◌-◌, ◌<◌, ◌≤◌}
use native.Mathlib.Omega.{arith}
use native.Mathlib.Numerals.{add-one}
use mathlib.Core.Path.{◌≡◌, refl, sym, ◌∙◌, ap}
use mathlib.Core.Bool.{Bool, true, false, cond}
use mathlib.Core.List.{List}
use lib.ListN.{set}
use Rattle.join.specs.declared.Joined.{Joined}
use Rattle.join.specs.Join.{at}
use Rattle.join.specs.Steps.{mated, takes, first, settled, mate_of, set_partner, entry_of, filled}
use Rattle.join.proofs.Laws.{settle_found, settle_alone, settle_paired}

-- ---- set_partner
pub partner_set : (t : List Joined) (i j : ℕ) (e : Joined) → e ≡ mated (at t i) j → set t i e ≡ set_partner t i j
unfolding set_partner
partner_set t i j e h = ap (set t i) h

-- ---- fill
pub filled_more : (l : List ℕ) (s t : List Joined) (i : ℕ) (e : Joined) → t ≡ filled l s i → e ≡ entry_of l i → set t i e ≡ filled l s (i + 1)
unfolding filled
filled_more l s t i e h k = rw add-one (simp (h, k))

pub filled-all : (l : List ℕ) (s t : List Joined) (i n : ℕ) → t ≡ filled l s i → i ≡ n → t ≡ filled l s n
filled-all l s t i n h e = h ∙ ap (filled l s) e

-- ---- mate: the search from j on
module _ (a : Joined) (t : List Joined) (n : ℕ) where
  first_step : (j k : ℕ) (b : Bool) → takes a (at t j) j ≡ b → first a t n j (suc k) ≡ cond b j (first a t n (suc j) k)
  unfolding first
  first_step j k b e = simp e

  -- the first that a takes from i on is the first from j on
  unfoldable pub Search : ℕ → ℕ → Type 0
  Search i j = first a t n i (n - i) ≡ first a t n j (n - j)

  pub search_starts : (i : ℕ) → Search i i
  unfolding Search
  search_starts i = refl

  pub search_goes : (i j : ℕ) → Search i j → j < n → takes a (at t j) j ≡ false → Search i (j + 1)
  unfolding Search
  search_goes i j s h e =
      let k : n - j ≡ suc (n - suc j) = omega arith in
      let q : suc j ≡ j + 1 = omega arith in
      s ∙ ap (first a t n j) k ∙ first_step j (n - suc j) false e ∙ ap (λ (m : ℕ). first a t n m (n - m)) q

  search_hits : (i j : ℕ) → Search i j → j < n → takes a (at t j) j ≡ true → first a t n i (n - i) ≡ j
  unfolding Search
  search_hits i j s h e =
      let k : n - j ≡ suc (n - suc j) = omega arith in
      s ∙ ap (first a t n j) k ∙ first_step j (n - suc j) true e

  search_ends : (i j : ℕ) → Search i j → n ≤ j → first a t n i (n - i) ≡ n
  unfolding Search first
  search_ends i j s h = let z : n - j ≡ 0 = omega arith in s ∙ ap (first a t n j) z

-- ---- mate: one law for each exit
module _ (a : Joined) (t : List Joined) (n i : ℕ) (h : a ≡ at t i) where
  mate_is : settled a i n (first a t n (i + 1) (n - (i + 1))) ≡ mate_of t n i
  unfolding mate_of
  mate_is =
      let q : i + 1 ≡ suc i = omega arith in
      ap (λ (m : ℕ). settled a i n (first a t n m (n - m))) q ∙ ap (λ (e : Joined). settled e i n (first e t n (suc i) (n - suc i))) h

  pub mate_paired : (a.partner ≡ i → ⊥) → a.partner ≡ mate_of t n i
  mate_paired d = settle_paired a i n (first a t n (i + 1) (n - (i + 1))) d ∙ mate_is

  pub mate_found : (j : ℕ) → a.partner ≡ i → Search a t n (i + 1) j → j < n → takes a (at t j) j ≡ true → j ≡ mate_of t n i
  mate_found j e s k g = settle_found a i n j e k ∙ ap (settled a i n) (sym (search_hits a t n (i + 1) j s k g)) ∙ mate_is

  pub mate_alone : (j : ℕ) → a.partner ≡ i → Search a t n (i + 1) j → n ≤ j → i ≡ mate_of t n i
  mate_alone j e s k =
      let r : n ≤ n = omega arith in
      settle_alone a i n n e r ∙ ap (settled a i n) (sym (search_ends a t n (i + 1) j s k)) ∙ mate_is
