-- Laws of the pairing: what an entry is after a partner is set, partners stay among the first n, and the steps of the loop.
use Prim.Native.Nat.{ℕ, zero, suc, ◌+◌, ◌-◌, ◌<◌, ◌≤◌}
use native.Mathlib.Omega.{arith}
use native.Mathlib.Numerals.{add-one}
use mathlib.Core.Path.{◌≡◌, refl, ◌∙◌, ap}
use mathlib.Core.Logic.{◌⊎◌, inl, inr}
use mathlib.Core.Bool.{Bool, true, false}
use mathlib.Core.List.{List}
use lib.Dec.{ltb, eqb}
use lib.ListN.{length, get_or, length-set}
use lib.Seq.{get_or-set_same, get_or-set_other}
use borrow.Author.Tests.{ltb-true, eqb-true, eqb-false}
use Rattle.join.specs.declared.Joined.{Joined}
use Rattle.join.specs.Join.{no_entry, at}
use Rattle.join.specs.Steps.{mated, first, settled, mate_of, set_partner, linked, paired, counted, pairs_to, Within}

-- ---- numbers
by_eqb : (i j : ℕ) (b : Bool) → eqb i j ≡ b → (i ≡ j) ⊎ (i ≡ j → ⊥)
by_eqb i j true e = inl (eqb-true i j e)
by_eqb i j false e = inr (eqb-false i j e)

pub same_or_not : (i j : ℕ) → (i ≡ j) ⊎ (i ≡ j → ⊥)
same_or_not i j = by_eqb i j (eqb i j) refl

-- ---- one partner set
pub length_partner : (t : List Joined) (i j : ℕ) → length (set_partner t i j) ≡ length t
unfolding set_partner
length_partner t i j = length-set t i (mated (at t i) j)

pub at_partner : (t : List Joined) (i j : ℕ) → i < length t → at (set_partner t i j) i ≡ mated (at t i) j
unfolding at set_partner
at_partner t i j h = get_or-set_same t i (mated (get_or t i no_entry) j) no_entry h

pub at_others : (t : List Joined) (i j k : ℕ) → (k ≡ i → ⊥) → at (set_partner t i j) k ≡ at t k
unfolding at set_partner
at_others t i j k h = get_or-set_other t i k (mated (get_or t i no_entry) j) no_entry h

pub partner_mated : (e : Joined) (j : ℕ) → (mated e j).partner ≡ j
unfolding mated
partner_mated e j = refl

partner_here : (t : List Joined) (i j : ℕ) → i < length t → (at (set_partner t i j) i).partner ≡ j
partner_here t i j h = ap (λ (e : Joined). e.partner) (at_partner t i j h) ∙ partner_mated (at t i) j

partner_other : (t : List Joined) (i j k : ℕ) → (k ≡ i → ⊥) → (at (set_partner t i j) k).partner ≡ (at t k).partner
partner_other t i j k h = ap (λ (e : Joined). e.partner) (at_others t i j k h)

-- ---- partners stay among the first n
within-set : (t : List Joined) (n i j : ℕ) → Within t n → i < n → j < n → Within (set_partner t i j) n
within-set t n i j w hi hj = record { room = omega (arith, length_partner t i j, w.room); below = λ k hk. by k hk (same_or_not k i) }
  where
    by : (k : ℕ) → k < n → (k ≡ i) ⊎ (k ≡ i → ⊥) → (at (set_partner t i j) k).partner < n
    by k hk (inl e) = rw e (omega (arith, partner_here t i j (omega (arith, w.room))))
    by k hk (inr d) = omega (arith, partner_other t i j k d, w.below k hk)

pub within-linked : (t : List Joined) (n i j : ℕ) → Within t n → i < n → j < n → Within (linked t i j) n
unfolding linked
within-linked t n i j w hi hj = within-set (set_partner t i j) n j i (within-set t n i j w hi hj) hj hi

settled-below : (a : Joined) (i n f : ℕ) (b d : Bool) → eqb a.partner i ≡ b → ltb f n ≡ d → i < n → a.partner < n → settled a i n f < n
unfolding settled
settled-below a i n f true true e g h k = simp (e, g) (ltb-true f n g)
settled-below a i n f true false e g h k = simp (e, g) h
settled-below a i n f false d e g h k = simp e k

pub mate_below : (t : List Joined) (n i : ℕ) → Within t n → i < n → mate_of t n i < n
unfolding mate_of
mate_below t n i w h = settled-below (at t i) i n (first (at t i) t n (suc i) (n - suc i)) (eqb (at t i).partner i) (ltb (first (at t i) t n (suc i) (n - suc i)) n) refl refl h (w.below i h)

pub within-paired : (t : List Joined) (n k : ℕ) → Within t n → k ≤ n → Within (paired t n k) n
unfolding paired
within-paired t n zero w h = w
within-paired t n (suc k) w h =
    let v : Within (paired t n k) n = within-paired t n k w (omega arith) in
    within-linked (paired t n k) n k (mate_of (paired t n k) n k) v (omega arith) (mate_below (paired t n k) n k v (omega arith))

pub length-linked : (t : List Joined) (i j : ℕ) → length (linked t i j) ≡ length t
unfolding linked
length-linked t i j = length_partner (set_partner t i j) j i ∙ length_partner t i j

pub length-paired : (t : List Joined) (n k : ℕ) → length (paired t n k) ≡ length t
unfolding paired
length-paired t n zero = refl
length-paired t n (suc k) = length-linked (paired t n k) k (mate_of (paired t n k) n k) ∙ length-paired t n k

counted-most : (p i j : ℕ) (b : Bool) → ltb i j ≡ b → counted p i j ≤ p + 1
unfolding counted
counted-most p i j true e = simp e (omega arith)
counted-most p i j false e = simp e (omega arith)

pub pairs-most : (t : List Joined) (n k : ℕ) → pairs_to t n k ≤ k
unfolding pairs_to
pairs-most t n zero = omega arith
pairs-most t n (suc k) = omega (arith, pairs-most t n k, counted-most (pairs_to t n k) k (mate_of (paired t n k) n k) (ltb k (mate_of (paired t n k) n k)) refl)

-- ---- the loop
pub record Turned (s : List Joined) (n : ℕ) (t : List Joined) (pairs i : ℕ) : Type 0 where
  pub most : i ≤ n
  pub table : t ≡ paired s n i
  pub count : pairs ≡ pairs_to s n i

pub turned-starts : (s : List Joined) (n : ℕ) → Turned s n s 0 0
unfolding paired pairs_to
turned-starts s n = record { most = omega arith; table = refl; count = refl }

module _ {s t : List Joined} {n pairs i : ℕ} (p : Turned s n t pairs i) where
  pub turned-within : Within s n → Within t n
  turned-within w = rw p.table (within-paired s n i w p.most)

  pub turned-length : length t ≡ length s
  turned-length = ap length p.table ∙ length-paired s n i

  pub turned-few : pairs ≤ i
  turned-few = omega (arith, p.count, pairs-most s n i)

  pub turned-goes : (j more : ℕ) (u v : List Joined) → i < n → j ≡ mate_of t n i → u ≡ set_partner t i j → v ≡ set_partner u j i → more ≡ counted pairs i j → Turned s n v more (i + 1)
  unfolding paired pairs_to linked
  turned-goes j more u v h hj hu hv hm = record {
    most = omega arith;
    table = rw add-one (hv ∙ simp (hu, hj, p.table));
    count = rw add-one (hm ∙ simp (p.count, hj, p.table));
  }

  pub turned-low : Within s n → i < n → i < length t
  turned-low w h = omega (arith, (turned-within w).room)

  pub turned_mate : (j : ℕ) (u : List Joined) → Within s n → i < n → j ≡ mate_of t n i → u ≡ set_partner t i j → j < length u
  turned_mate j u w h hj hu = omega (arith, (turned-within w).room, mate_below t n i (turned-within w) h, ap length hu, length_partner t i j)

  pub turned-ends : n ≤ i → (pairs ≡ pairs_to s n n) × (t ≡ paired s n n)
  turned-ends h = let e : i ≡ n = omega (arith, p.most) in (p.count ∙ ap (pairs_to s n) e, p.table ∙ ap (paired s n) e)
