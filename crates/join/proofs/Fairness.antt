-- The pairing is fair: partners point at each other and can be joined, and each free shot took the first later free one that it can join.
--
--   Fair t n k          == so it is of the first n entries of t, when the first k have had their turns
--   can_join_swap        == whether two shots can be joined does not depend on their order
--   linked-*            == what two entries are that were made partners, and the others
--   turn                == a turn keeps the table fair
--   paired-*            == so do all turns; they leave the shots; and the pairs made are those of the table
use Prim.Native.Nat.{ℕ, zero, suc, ◌+◌, ◌-◌, ◌<◌, ◌≤◌}
use native.Mathlib.Omega.{arith}
use mathlib.Core.Path.{◌≡◌, refl, sym, ◌∙◌, ap, ap₂}
use mathlib.Core.Logic.{◌⊎◌, inl, inr}
use mathlib.Core.Bool.{Bool, true, false, ◌||◌, true≢false}
use mathlib.Core.List.{List}
use lib.Dec.{ltb, eqb}
use lib.ListN.{length}
use borrow.Author.Tests.{eq-eqb, ne_eqb, lt-ltb, le-ltb, ltb-true, ltb-false, eqb-true}
use Rattle.sum.specs.Sum.{only, over}
use Rattle.sum.proofs.Sum.{over_last, over-same}
use Rattle.shot.specs.Shot.{Shot}
use Rattle.join.specs.declared.Joined.{Joined}
use Rattle.join.specs.Join.{at, beside, below, can_join, as_shot, partner_at, pairs}
use Rattle.join.specs.Steps.{mated, takes, first, settled, mate_of, set_partner, linked, paired, counted, pairs_to, Within}
use Rattle.join.proofs.Pairs.{same_or_not, length_partner, length-linked, at_partner, at_others, partner_mated, within-linked}

-- ---- the order of two shots
or_swap : (p q r s : Bool) → (p || q || r || s) ≡ (q || p || s || r)
or_swap true true r s = refl
or_swap true false r s = refl
or_swap false true r s = refl
or_swap false false true true = refl
or_swap false false true false = refl
or_swap false false false true = refl
or_swap false false false false = refl

pub can_join_swap : (a b : Shot) → can_join a b ≡ can_join b a
unfolding can_join
can_join_swap a b = or_swap (beside a b) (beside b a) (below a b) (below b a)

-- ---- entries after two partners are set
shot-mated : (e : Joined) (j : ℕ) → as_shot (mated e j) ≡ as_shot e
unfolding mated as_shot
shot-mated e j = refl

abbrev pub shot_at : List Joined → ℕ → Shot
shot_at t i = as_shot (at t i)

module _ (t : List Joined) (i j : ℕ) (hi : i < length t) where
  shot-set-by : (k : ℕ) → (k ≡ i) ⊎ (k ≡ i → ⊥) → shot_at (set_partner t i j) k ≡ shot_at t k
  shot-set-by k (inl e) = rw e (ap as_shot (at_partner t i j hi) ∙ shot-mated (at t i) j)
  shot-set-by k (inr d) = ap as_shot (at_others t i j k d)

  shot-set : (k : ℕ) → shot_at (set_partner t i j) k ≡ shot_at t k
  shot-set k = shot-set-by k (same_or_not k i)

  partner_set : partner_at (set_partner t i j) i ≡ j
  partner_set = ap (λ (e : Joined). e.partner) (at_partner t i j hi) ∙ partner_mated (at t i) j

partner_kept : (t : List Joined) (i j k : ℕ) → (k ≡ i → ⊥) → partner_at (set_partner t i j) k ≡ partner_at t k
partner_kept t i j k d = ap (λ (e : Joined). e.partner) (at_others t i j k d)

module _ (t : List Joined) (i j : ℕ) (hi : i < length t) (hj : j < length t) where
  hj' : j < length (set_partner t i j)
  hj' = omega (arith, length_partner t i j)

  pub linked-shot : (k : ℕ) → shot_at (linked t i j) k ≡ shot_at t k
  unfolding linked
  linked-shot k = shot-set (set_partner t i j) j i hj' k ∙ shot-set t i j hi k

  pub linked-second : partner_at (linked t i j) j ≡ i
  unfolding linked
  linked-second = partner_set (set_partner t i j) j i hj'

  linked-first-by : (i ≡ j) ⊎ (i ≡ j → ⊥) → partner_at (linked t i j) i ≡ j
  unfolding linked
  linked-first-by (inl e) = ap (partner_at (set_partner (set_partner t i j) j i)) e ∙ partner_set (set_partner t i j) j i hj' ∙ e
  linked-first-by (inr d) = partner_kept (set_partner t i j) j i i d ∙ partner_set t i j hi

  pub linked-first : partner_at (linked t i j) i ≡ j
  linked-first = linked-first-by (same_or_not i j)

  pub linked-other : (k : ℕ) → (k ≡ i → ⊥) → (k ≡ j → ⊥) → partner_at (linked t i j) k ≡ partner_at t k
  unfolding linked
  linked-other k p q = partner_kept (set_partner t i j) j i k q ∙ partner_kept t i j k p

  linked-same-by : partner_at t i ≡ j → partner_at t j ≡ i → (k : ℕ) → (k ≡ i) ⊎ (k ≡ i → ⊥) → (k ≡ j) ⊎ (k ≡ j → ⊥) → partner_at (linked t i j) k ≡ partner_at t k
  linked-same-by h g k (inl e) q = rw e (linked-first ∙ sym h)
  linked-same-by h g k (inr d) (inl e) = rw e (linked-second ∙ sym g)
  linked-same-by h g k (inr d) (inr q) = linked-other k d q

  -- they were partners before: nothing changes
  pub linked-same : partner_at t i ≡ j → partner_at t j ≡ i → (k : ℕ) → partner_at (linked t i j) k ≡ partner_at t k
  linked-same h g k = linked-same-by h g k (same_or_not k i) (same_or_not k j)

-- ---- the first that a takes
record Firsts (a : Joined) (t : List Joined) (n j f : ℕ) : Type 0 where
  least : j ≤ f
  most : f ≤ n
  passed : (m : ℕ) → j ≤ m → m < f → takes a (at t m) m ≡ false
  found : f < n → takes a (at t f) f ≡ true

module _ (a : Joined) (t : List Joined) (n : ℕ) where
  firsts_by : (j k : ℕ) (b : Bool) → takes a (at t j) j ≡ b → j + suc k ≡ n → Firsts a t n (suc j) (first a t n (suc j) k) → Firsts a t n j (first a t n j (suc k))
  unfolding first
  firsts_by j k true e h ih = simp e (record { least = omega arith; most = omega arith; passed = λ m p q. absurd (omega arith); found = λ _. e })
  firsts_by j k false e h ih = simp e (record { least = omega (arith, ih.least); most = ih.most; passed = λ m p q. past m p q (same_or_not m j); found = ih.found })
    where
      past : (m : ℕ) → j ≤ m → m < first a t n (suc j) k → (m ≡ j) ⊎ (m ≡ j → ⊥) → takes a (at t m) m ≡ false
      past m p q (inl g) = rw g e
      past m p q (inr d) = ih.passed m (omega arith) q

  firsts : (j k : ℕ) → j + k ≡ n → Firsts a t n j (first a t n j k)
  unfolding first
  firsts j zero h = record { least = omega arith; most = omega arith; passed = λ m p q. absurd (omega arith); found = λ q. absurd (omega arith) }
  firsts j (suc k) h = firsts_by j k (takes a (at t j) j) refl h (firsts (suc j) k (omega arith))

takes-by : (a b : Joined) (j : ℕ) (p q : Bool) → eqb b.partner j ≡ p → can_join (as_shot a) (as_shot b) ≡ q → takes a b j ≡ true → (b.partner ≡ j) × (can_join (as_shot a) (as_shot b) ≡ true)
unfolding takes
takes-by a b j true true e g h = (eqb-true b.partner j e, g)
takes-by a b j true false e g h = let z : false ≡ true = simp (e, g) at h in absurd (true≢false (sym z))
takes-by a b j false q e g h = let z : false ≡ true = simp e at h in absurd (true≢false (sym z))

takes-is : (a b : Joined) (j : ℕ) → takes a b j ≡ true → (b.partner ≡ j) × (can_join (as_shot a) (as_shot b) ≡ true)
takes-is a b j h = takes-by a b j (eqb b.partner j) (can_join (as_shot a) (as_shot b)) refl refl h

takes_free : (a b : Joined) (j : ℕ) → b.partner ≡ j → can_join (as_shot a) (as_shot b) ≡ true → takes a b j ≡ true
unfolding takes
takes_free a b j e h = simp (eq-eqb b.partner j e, h)

-- ---- what one turn does
module _ (t : List Joined) (n k : ℕ) where
  abbrev f : ℕ
  f = first (at t k) t n (suc k) (n - suc k)

  mate_paired : (partner_at t k ≡ k → ⊥) → mate_of t n k ≡ partner_at t k
  unfolding mate_of settled
  mate_paired d = simp (ne_eqb (at t k).partner k d)

  mate_found : partner_at t k ≡ k → f < n → mate_of t n k ≡ f
  unfolding mate_of settled
  mate_found e h = simp (eq-eqb (at t k).partner k e, lt-ltb f n h)

  mate_none : partner_at t k ≡ k → n ≤ f → mate_of t n k ≡ k
  unfolding mate_of settled
  mate_none e h = simp (eq-eqb (at t k).partner k e, le-ltb f n h)

-- what holds of the first n entries of a table when the first k have had their turns; a pair has its lower number among these
pub record Fair (t : List Joined) (n k : ℕ) : Type 0 where
  pub within : Within t n
  pub back : (i : ℕ) → i < n → partner_at t (partner_at t i) ≡ i
  pub joined : (i : ℕ) → i < n → (partner_at t i ≡ i → ⊥) → can_join (shot_at t i) (shot_at t (partner_at t i)) ≡ true
  pub made : (j : ℕ) → k ≤ j → j < n → k ≤ partner_at t j → partner_at t j ≡ j
  pub took : (i j : ℕ) → i < k → i < j → j < n → i ≤ partner_at t i → i ≤ partner_at t j → can_join (shot_at t i) (shot_at t j) ≡ true → (i < partner_at t i) × (partner_at t i ≤ j)

-- u has the partners and the shots of t, and k takes nobody
record Alike (t u : List Joined) : Type 0 where
  size : length u ≡ length t
  partner : (i : ℕ) → partner_at u i ≡ partner_at t i
  shot : (i : ℕ) → shot_at u i ≡ shot_at t i

module _ (t u : List Joined) (n k : ℕ) (v : Fair t n k) (a : Alike t u)
    (new : (j : ℕ) → k < j → j < n → k ≤ partner_at t k → k ≤ partner_at t j → can_join (shot_at t k) (shot_at t j) ≡ true → ⊥)
    (here : k ≤ partner_at t k → partner_at t k ≡ k) where
  same : (i j : ℕ) → can_join (shot_at u i) (shot_at u j) ≡ can_join (shot_at t i) (shot_at t j)
  same i j = ap₂ can_join (a.shot i) (a.shot j)

  took_by : (i j : ℕ) → i < suc k → i < j → j < n → i ≤ partner_at t i → i ≤ partner_at t j → can_join (shot_at t i) (shot_at t j) ≡ true → (i ≡ k) ⊎ (i ≡ k → ⊥) → (i < partner_at t i) × (partner_at t i ≤ j)
  took_by i j p q r x y z (inl e) =
      absurd (new j (omega arith) r (omega (arith, ap (partner_at t) e)) (omega arith) (ap (λ (m : ℕ). can_join (shot_at t m) (shot_at t j)) (sym e) ∙ z))
  took_by i j p q r x y z (inr d) = v.took i j (omega arith) q r x y z

  fair_alike : Fair u n (suc k)
  fair_alike =
      record {
        within = record { room = omega (arith, v.within.room, a.size); below = λ i h. omega (arith, a.partner i, v.within.below i h) };
        back = λ i h. ap (partner_at u) (a.partner i) ∙ a.partner (partner_at t i) ∙ v.back i h;
        joined = λ i h d. same i (partner_at u i) ∙ ap (λ (m : ℕ). can_join (shot_at t i) (shot_at t m)) (a.partner i) ∙ v.joined i h (λ e. d (a.partner i ∙ e));
        made = λ j p q r. a.partner j ∙ v.made j (omega arith) q (omega (arith, a.partner j));
        took = λ i j p q r x y z.
            let w = took_by i j p q r (omega (arith, a.partner i)) (omega (arith, a.partner j)) (sym (same i j) ∙ z) (same_or_not i k) in
            (omega (arith, a.partner i, w.0), omega (arith, a.partner i, w.1));
      }

-- k and f were free and are partners now; those between them are taken, or cannot be joined with k
module _ (t : List Joined) (n k f : ℕ) (v : Fair t n k) (hk : k < n) (hf : f < n) (above : k < f) (free : partner_at t k ≡ k) (free' : partner_at t f ≡ f)
    (fits : can_join (shot_at t k) (shot_at t f) ≡ true) (passed : (m : ℕ) → k < m → m < f → partner_at t m ≡ m → can_join (shot_at t k) (shot_at t m) ≡ true → ⊥) where
  abbrev u : List Joined
  u = linked t k f

  lk : k < length t
  lk = omega (arith, v.within.room)

  lf : f < length t
  lf = omega (arith, v.within.room)

  first_of : partner_at u k ≡ f
  first_of = linked-first t k f lk lf

  second_of : partner_at u f ≡ k
  second_of = linked-second t k f lk lf

  other_of : (i : ℕ) → (i ≡ k → ⊥) → (i ≡ f → ⊥) → partner_at u i ≡ partner_at t i
  other_of = linked-other t k f lk lf

  same_now : (i j : ℕ) → can_join (shot_at u i) (shot_at u j) ≡ can_join (shot_at t i) (shot_at t j)
  same_now i j = ap₂ can_join (linked-shot t k f lk lf i) (linked-shot t k f lk lf j)

  -- the partner of another is another
  not-k : (i : ℕ) → i < n → (i ≡ k → ⊥) → partner_at t i ≡ k → ⊥
  not-k i h d e = d (sym (v.back i h) ∙ ap (partner_at t) e ∙ free)

  not_f : (i : ℕ) → i < n → (i ≡ f → ⊥) → partner_at t i ≡ f → ⊥
  not_f i h d e = d (sym (v.back i h) ∙ ap (partner_at t) e ∙ free')

  back_by : (i : ℕ) → i < n → (i ≡ k) ⊎ (i ≡ k → ⊥) → (i ≡ f) ⊎ (i ≡ f → ⊥) → partner_at u (partner_at u i) ≡ i
  back_by i h (inl e) q = ap (λ (m : ℕ). partner_at u (partner_at u m)) e ∙ ap (partner_at u) first_of ∙ second_of ∙ sym e
  back_by i h (inr d) (inl e) = ap (λ (m : ℕ). partner_at u (partner_at u m)) e ∙ ap (partner_at u) second_of ∙ first_of ∙ sym e
  back_by i h (inr d) (inr q) = ap (partner_at u) (other_of i d q) ∙ other_of (partner_at t i) (not-k i h d) (not_f i h q) ∙ v.back i h

  joined_by : (i : ℕ) → i < n → (partner_at u i ≡ i → ⊥) → (i ≡ k) ⊎ (i ≡ k → ⊥) → (i ≡ f) ⊎ (i ≡ f → ⊥) → can_join (shot_at t i) (shot_at t (partner_at u i)) ≡ true
  joined_by i h g (inl e) q = ap (λ (m : ℕ). can_join (shot_at t m) (shot_at t (partner_at u m))) e ∙ ap (λ (m : ℕ). can_join (shot_at t k) (shot_at t m)) first_of ∙ fits
  joined_by i h g (inr d) (inl e) = ap (λ (m : ℕ). can_join (shot_at t m) (shot_at t (partner_at u m))) e ∙ ap (λ (m : ℕ). can_join (shot_at t f) (shot_at t m)) second_of ∙ can_join_swap (shot_at t f) (shot_at t k) ∙ fits
  joined_by i h g (inr d) (inr q) = ap (λ (m : ℕ). can_join (shot_at t i) (shot_at t m)) (other_of i d q) ∙ v.joined i h (λ e. g (other_of i d q ∙ e))

  made_by : (j : ℕ) → suc k ≤ j → j < n → suc k ≤ partner_at u j → (j ≡ f) ⊎ (j ≡ f → ⊥) → partner_at u j ≡ j
  made_by j p q r (inl e) = absurd (omega (arith, ap (partner_at u) e, second_of))
  made_by j p q r (inr d) = let o = other_of j (λ z. omega arith) d in o ∙ v.made j (omega arith) q (omega (arith, o))

  -- whoever comes after i and is free at its turn was so before this one
  was_free : (i j : ℕ) → i < k → i ≤ partner_at u j → (j ≡ k) ⊎ (j ≡ k → ⊥) → (j ≡ f) ⊎ (j ≡ f → ⊥) → i ≤ partner_at t j
  was_free i j p y (inl e) q = omega (arith, ap (partner_at t) e, free)
  was_free i j p y (inr d) (inl e) = omega (arith, ap (partner_at t) e, free')
  was_free i j p y (inr d) (inr q) = omega (arith, other_of j d q)

  reached : (j : ℕ) → k < j → j < n → k ≤ partner_at u j → can_join (shot_at t k) (shot_at t j) ≡ true → (b : Bool) → ltb j f ≡ b → f ≤ j
  reached j p q y z true e =
      let l = ltb-true j f e in
      let o = other_of j (λ w. omega arith) (λ w. omega arith) in
      absurd (passed j p l (v.made j (omega arith) q (omega (arith, o))) z)
  reached j p q y z false e = ltb-false j f e

  took_by' : (i j : ℕ) → i < suc k → i < j → j < n → i ≤ partner_at u i → i ≤ partner_at u j → can_join (shot_at t i) (shot_at t j) ≡ true → (i ≡ k) ⊎ (i ≡ k → ⊥) → (i < partner_at u i) × (partner_at u i ≤ j)
  took_by' i j p q r x y z (inl e) =
      let w = reached j (omega arith) r (omega arith) (ap (λ (m : ℕ). can_join (shot_at t m) (shot_at t j)) (sym e) ∙ z) (ltb j f) refl in
      let o = ap (partner_at u) e ∙ first_of in
      (omega (arith, o), omega (arith, o, w))
  took_by' i j p q r x y z (inr d) =
      let o = other_of i d (λ w. omega arith) in
      let low : i < k = omega arith in
      let w = v.took i j low q r (omega (arith, o)) (was_free i j low y (same_or_not j k) (same_or_not j f)) z in
      (omega (arith, o, w.0), omega (arith, o, w.1))

  fair_joined : Fair u n (suc k)
  fair_joined =
      record {
        within = within-linked t n k f v.within hk hf;
        back = λ i h. back_by i h (same_or_not i k) (same_or_not i f);
        joined = λ i h d. same_now i (partner_at u i) ∙ joined_by i h d (same_or_not i k) (same_or_not i f);
        made = λ j p q r. made_by j p q r (same_or_not j f);
        took = λ i j p q r x y z. took_by' i j p q r x y (sym (same_now i j) ∙ z) (same_or_not i k);
      }

-- ---- a turn keeps the table fair
-- what is kept in a turn: fairness, the partners below k, the shots
record Kept (t u : List Joined) (n k : ℕ) : Type 0 where
  fair : Fair u n (suc k)
  before : (i : ℕ) → i < k → partner_at u i ≡ partner_at t i
  here : partner_at u k ≡ mate_of t n k
  shot : (i : ℕ) → shot_at u i ≡ shot_at t i

module _ (t : List Joined) (n k : ℕ) (v : Fair t n k) (hk : k < n) where
  abbrev g : ℕ
  g = first (at t k) t n (suc k) (n - suc k)

  gs : Firsts (at t k) t n (suc k) g
  gs = firsts (at t k) t n (suc k) (n - suc k) (omega arith)

  low : k < length t
  low = omega (arith, v.within.room)

  -- nobody that is free and can be joined is passed over
  never : (m : ℕ) → k < m → m < g → partner_at t m ≡ m → can_join (shot_at t k) (shot_at t m) ≡ true → ⊥
  never m p q e z = true≢false (sym (takes_free (at t k) (at t m) m e z) ∙ gs.passed m (omega arith) q)

  turn-alike : (j : ℕ) → j < n → mate_of t n k ≡ j → partner_at t k ≡ j → partner_at t j ≡ k
      → ((m : ℕ) → k < m → m < n → k ≤ partner_at t k → k ≤ partner_at t m → can_join (shot_at t k) (shot_at t m) ≡ true → ⊥) → (k ≤ partner_at t k → partner_at t k ≡ k) → Kept t (linked t k j) n k
  turn-alike j hj e p q new here =
      let lj : j < length t = omega (arith, v.within.room) in
      record {
        fair = fair_alike t (linked t k j) n k v (record { size = length-linked t k j; partner = linked-same t k j low lj p q; shot = linked-shot t k j low lj }) new here;
        before = λ i h. linked-same t k j low lj p q i;
        here = linked-first t k j low lj ∙ sym e;
        shot = linked-shot t k j low lj;
      }

  turn-found : partner_at t k ≡ k → g < n → Kept t (linked t k g) n k
  turn-found e h =
      let w = takes-is (at t k) (at t g) g (gs.found h) in
      let a : k < g = omega (arith, gs.least) in
      let lg : g < length t = omega (arith, v.within.room) in
      record {
        fair = fair_joined t n k g v hk h a e w.0 w.1 never;
        before = λ i q. linked-other t k g low lg i (λ z. omega arith) (λ z. omega arith);
        here = linked-first t k g low lg ∙ sym (mate_found t n k e h);
        shot = linked-shot t k g low lg;
      }

  turn_by : (partner_at t k ≡ k) ⊎ (partner_at t k ≡ k → ⊥) → (b : Bool) → ltb g n ≡ b → Kept t (linked t k (mate_of t n k)) n k
  turn_by (inl e) true h = rw (mate_found t n k e (ltb-true g n h)) (turn-found e (ltb-true g n h))
  turn_by (inl e) false h =
      let r : n ≤ g = ltb-false g n h in
      rw (mate_none t n k e r) (turn-alike k hk (mate_none t n k e r) e e (λ m p q x y z. never m p (omega arith) (v.made m (omega arith) q y) z) (λ x. e))
  turn_by (inr d) b h =
      rw (mate_paired t n k d)
      (turn-alike (partner_at t k) (v.within.below k hk) (mate_paired t n k d) refl (v.back k hk) (λ m p q x y z. d (v.made k (omega arith) hk x)) (λ x. v.made k (omega arith) hk x))

  turn : Kept t (linked t k (mate_of t n k)) n k
  turn = turn_by (same_or_not (partner_at t k) k) (ltb g n) refl

-- ---- all turns
pub record AllFree (s : List Joined) (n : ℕ) : Type 0 where
  pub room : n ≤ length s
  pub own : (i : ℕ) → i < n → partner_at s i ≡ i

fair_starts : (s : List Joined) (n : ℕ) → AllFree s n → Fair s n 0
fair_starts s n v =
    record {
      within = record { room = v.room; below = λ i h. omega (arith, v.own i h) };
      back = λ i h. ap (partner_at s) (v.own i h) ∙ v.own i h;
      joined = λ i h d. absurd (d (v.own i h));
      made = λ j p q r. v.own j q;
      took = λ i j p q r x y z. absurd (omega arith);
    }

counted-only : (p i j : ℕ) (b : Bool) → ltb i j ≡ b → counted p i j ≡ p + only (ltb i j) 1
unfolding counted
counted-only p i j true e = simp e
counted-only p i j false e = let z : p ≡ p + 0 = omega arith in simp e z

module _ (s : List Joined) (n : ℕ) (v : AllFree s n) where
  pub paired_fair : (k : ℕ) → k ≤ n → Fair (paired s n k) n k
  unfolding paired
  paired_fair zero h = fair_starts s n v
  paired_fair (suc k) h = (turn (paired s n k) n k (paired_fair k (omega arith)) (omega arith)).fair

  pub paired-shot : (k : ℕ) → k ≤ n → (i : ℕ) → shot_at (paired s n k) i ≡ shot_at s i
  unfolding paired
  paired-shot zero h i = refl
  paired-shot (suc k) h i = (turn (paired s n k) n k (paired_fair k (omega arith)) (omega arith)).shot i ∙ paired-shot k (omega arith) i

  pub paired-pairs : (k : ℕ) → k ≤ n → pairs_to s n k ≡ pairs (partner_at (paired s n k)) k
  unfolding paired pairs_to pairs over
  paired-pairs zero h = refl
  paired-pairs (suc k) h =
      let t = paired s n k in
      let m = mate_of t n k in
      let u = linked t k m in
      let w = turn t n k (paired_fair k (omega arith)) (omega arith) in
      counted-only (pairs_to s n k) k m (ltb k m) refl
      ∙ ap₂ ◌+◌ (paired-pairs k (omega arith) ∙ over-same 0 k (λ i. only (ltb i (partner_at t i)) 1) (λ i. only (ltb i (partner_at u i)) 1) (λ i p q. ap (λ (j : ℕ). only (ltb i j) 1) (sym (w.before i q)))) (ap (λ (j : ℕ). only (ltb k j) 1) (sym w.here))
      ∙ sym (over_last 0 k (λ i. only (ltb i (partner_at u i)) 1) (omega arith))
