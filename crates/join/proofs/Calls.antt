-- Laws of the call: a list that is not refused has room in the table, and the filled table has partners among its first entries.
use Prim.Native.Nat.{ℕ, zero, suc, ◌*◌, ◌<◌, ◌≤◌, ◌/◌}
use native.Mathlib.Omega.{arith}
use mathlib.Core.Path.{◌≡◌, refl, ◌∙◌, ap}
use mathlib.Core.Logic.{◌⊎◌, inl, inr}
use mathlib.Core.Bool.{Bool, true, false}
use mathlib.Core.List.{List}
use lib.Dec.{ltb}
use lib.ListN.{length, length-set}
use lib.Seq.{get_or-set_same, get_or-set_other}
use borrow.Author.Tests.{ltb-false}
use Rattle.join.specs.declared.Joined.{Joined}
use Rattle.shot.specs.Bad.{bad_shots}
use Rattle.std.specs.Prelude.{Result, Ok, Err}
use Rattle.refusal.specs.declared.Refusal.{Refusal}
use Rattle.join.specs.Join.{no_entry, at}
use Rattle.join.specs.Steps.{pairs_to, entry_of, filled, checked, Fillable, Within}
use Rattle.join.proofs.Pairs.{same_or_not, pairs-most}

-- ---- the filled table
pub length-filled : (l : List ℕ) (t : List Joined) (k : ℕ) → length (filled l t k) ≡ length t
unfolding filled
length-filled l t zero = refl
length-filled l t (suc k) = length-set (filled l t k) k (entry_of l k) ∙ length-filled l t k

filled-by : (l : List ℕ) (t : List Joined) (k i : ℕ) → k < length t → (i < k → at (filled l t k) i ≡ entry_of l i) → i < suc k → (i ≡ k) ⊎ (i ≡ k → ⊥) → at (filled l t (suc k)) i ≡ entry_of l i
unfolding at filled
filled-by l t k i h ih g (inl e) = rw e (get_or-set_same (filled l t k) k (entry_of l k) no_entry (omega (arith, length-filled l t k)))
filled-by l t k i h ih g (inr d) = get_or-set_other (filled l t k) k i (entry_of l k) no_entry d ∙ ih (omega arith)

pub at-filled : (l : List ℕ) (t : List Joined) (k i : ℕ) → k ≤ length t → i < k → at (filled l t k) i ≡ entry_of l i
at-filled l t zero i h g = absurd (omega arith)
at-filled l t (suc k) i h g = filled-by l t k i (omega arith) (λ q. at-filled l t k i (omega arith) q) g (same_or_not i k)

partner_shot : (l : List ℕ) (i : ℕ) → (entry_of l i).partner ≡ i
unfolding entry_of
partner_shot l i = refl

pub partner_filled : (l : List ℕ) (t : List Joined) (k i : ℕ) → k ≤ length t → i < k → (at (filled l t k) i).partner ≡ i
partner_filled l t k i h g = ap (λ (e : Joined). e.partner) (at-filled l t k i h g) ∙ partner_shot l i

pub within-filled : (l : List ℕ) (t : List Joined) (n : ℕ) → n ≤ length t → Within (filled l t n) n
within-filled l t n h = record { room = omega (arith, length-filled l t n); below = λ i g. omega (arith, partner_filled l t n i h g) }

-- ---- what is checked has room in the table
abbrev to_join : Result ℕ Refusal → ℕ
to_join (Ok n) = n
to_join (Err why) = 0

fits_by : (l : List ℕ) (room : ℕ) (b d : Bool) → bad_shots l ≡ b → ltb room (length l / 4) ≡ d → (to_join (checked l room) ≤ room) × (4 * to_join (checked l room) ≤ length l)
unfolding checked
fits_by l room true d e g = simp e (omega arith, omega arith)
fits_by l room false true e g = simp (e, g) (omega arith, omega arith)
fits_by l room false false e g = simp (e, g) (omega (arith, ltb-false room (length l / 4) g), omega arith)

module _ (l : List ℕ) (t : List Joined) (n : ℕ) (h : Ok n ≡ checked l (length t)) where
  pub fillable : Fillable l t n
  fillable =
      let f = fits_by l (length t) (bad_shots l) (ltb (length t) (length l / 4)) refl refl in
      let e : n ≡ to_join (checked l (length t)) = ap to_join h in
      record { room = omega (arith, f.0); numbers = omega (arith, f.1) }

  pub pairable : (u : List Joined) → u ≡ filled l t n → Within u n
  pairable u e = rw e (within-filled l t n fillable.room)

pub pairs-fit : (u : List Joined) (n pairs : ℕ) → pairs ≡ pairs_to u n n → pairs ≤ n
pairs-fit u n pairs h = omega (arith, pairs-most u n n)
