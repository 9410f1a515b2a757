-- What the steps of the call leave is what it promises.
--
--   nth-shots        == shot i of a list of numbers is the one at the place 4 i
--   shots-count      == a list of a multiple of four numbers has a quarter as many shots
--   paired-beyond    == what lies behind the first n entries stays
--   outcome          == what the steps of the call make of the checked list
--   call_refused, call_joined  == the promise of the call, from what its steps ensure
use Prim.Native.Nat.{ℕ, zero, suc, ◌+◌, ◌*◌, ◌-◌, ◌<◌, ◌≤◌, ◌/◌, ◌%◌}
use native.Mathlib.Omega.{arith}
use mathlib.Core.Path.{◌≡◌, refl, sym, ◌∙◌, ap, ap₂, subst}
use mathlib.Core.Bool.{Bool, true, false}
use mathlib.Core.List.{List, [], ◌∷◌, map}
use lib.Dec.{ltb}
use lib.ListN.{length, get_or, take, drop, length-map, get_or-map}
use lib.Seq.{length-take-le, get_or-take, drop-set-lt, ext_get_or}
use borrow.Author.Tests.{ltb-true, ltb-false, lt-ltb, le-ltb}
use Rattle.refusal.specs.declared.Refusal.{Refusal}
use Rattle.refusal.specs.declared.Refusal.TheVariants.{Room, Shots}
use Rattle.refusal.specs.Refusals.{refusal_no}
use Rattle.refusal.proofs.Refusals.{refusal-some}
use Rattle.shot.specs.Shot.{Shot, shots_in}
use Rattle.shot.specs.Bad.{bad_shots}
use Rattle.shot.proofs.Shot.{numbers-length}
use Rattle.shot.proofs.Bad.{numbers-shots, good-shots}
use Rattle.join.specs.declared.Joined.{Joined}
use Rattle.std.specs.Prelude.{Result, Ok, Err}
use Rattle.join.specs.Join.{at, nth, no_shot, no_entry, as_shot, partner_at, can_join, pairs, refusal, JoinSaid, join_told, Greedy, Joins, Promise}
use Rattle.join.specs.Steps.{mated, mate_of, set_partner, linked, paired, pairs_to, entry_of, filled, checked, Within}
use Rattle.join.proofs.Pairs.{mate_below, within-paired, length-paired}
use Rattle.join.proofs.Calls.{at-filled, partner_filled, length-filled, within-filled}
use Rattle.join.proofs.Fairness.{shot_at, Fair, AllFree, paired_fair, paired-shot, paired-pairs}

-- ---- shots of numbers
shot-next : (a b c d : ℕ) (l : List ℕ) (i : ℕ) → as_shot (entry_of (a ∷ b ∷ c ∷ d ∷ l) (suc i)) ≡ as_shot (entry_of l i)
unfolding as_shot entry_of
shot-next a b c d l i =
    let w : 4 * suc i ≡ suc (suc (suc (suc (4 * i)))) = omega arith in
    let x : 4 * suc i + 1 ≡ suc (suc (suc (suc (4 * i + 1)))) = omega arith in
    let y : 4 * suc i + 2 ≡ suc (suc (suc (suc (4 * i + 2)))) = omega arith in
    let z : 4 * suc i + 3 ≡ suc (suc (suc (suc (4 * i + 3)))) = omega arith in
    same (at-four w) (at-four x) (at-four y) (at-four z)
  where
    at-four : {m n : ℕ} → m ≡ suc (suc (suc (suc n))) → get_or (a ∷ b ∷ c ∷ d ∷ l) m 0 ≡ get_or l n 0
    at-four e = ap (λ k. get_or (a ∷ b ∷ c ∷ d ∷ l) k 0) e

    same : {p q r s t u v w : ℕ} → p ≡ t → q ≡ u → r ≡ v → s ≡ w
        → ◌≡◌ {A = Shot} (record { xlow = p; ylow = q; xhigh = r; yhigh = s }) (record { xlow = t; ylow = u; xhigh = v; yhigh = w })
    same e f g h = cc

shot-front : (a b c d : ℕ) (l : List ℕ) → ◌≡◌ {A = Shot} (record { xlow = a; ylow = b; xhigh = c; yhigh = d }) (as_shot (entry_of (a ∷ b ∷ c ∷ d ∷ l) 0))
unfolding as_shot entry_of
shot-front a b c d l = refl

pub nth-shots : (l : List ℕ) (i : ℕ) → 4 * i + 4 ≤ length l → nth (shots_in l) i ≡ as_shot (entry_of l i)
unfolding shots_in
nth-shots [] i h = absurd (omega arith)
nth-shots (a ∷ []) i h = absurd (omega arith)
nth-shots (a ∷ b ∷ []) i h = absurd (omega arith)
nth-shots (a ∷ b ∷ c ∷ []) i h = absurd (omega arith)
nth-shots (a ∷ b ∷ c ∷ d ∷ l) zero h = shot-front a b c d l
nth-shots (a ∷ b ∷ c ∷ d ∷ l) (suc i) h = nth-shots l i (omega arith) ∙ sym (shot-next a b c d l i)

pub shots-count : (l : List ℕ) → length l % 4 ≡ 0 → length (shots_in l) ≡ length l / 4
shots-count l h = omega (arith, numbers-length (shots_in l), ap length (numbers-shots l h))

-- ---- behind the first n entries
filled-beyond : (l : List ℕ) (t : List Joined) (n k : ℕ) → k ≤ n → drop n (filled l t k) ≡ drop n t
unfolding filled
filled-beyond l t n zero h = refl
filled-beyond l t n (suc k) h = drop-set-lt n (filled l t k) k (entry_of l k) (omega arith) ∙ filled-beyond l t n k (omega arith)

linked-beyond : (t : List Joined) (n i j : ℕ) → i < n → j < n → drop n (linked t i j) ≡ drop n t
unfolding linked set_partner
linked-beyond t n i j hi hj = drop-set-lt n (set_partner t i j) j (mated (at (set_partner t i j) j) i) hj ∙ drop-set-lt n t i (mated (at t i) j) hi

pub paired-beyond : (t : List Joined) (n k : ℕ) → Within t n → k ≤ n → drop n (paired t n k) ≡ drop n t
unfolding paired
paired-beyond t n zero w h = refl
paired-beyond t n (suc k) w h =
    linked-beyond (paired t n k) n k (mate_of (paired t n k) n k) (omega arith) (mate_below (paired t n k) n k (within-paired t n k w (omega arith)) (omega arith)) ∙ paired-beyond t n k w (omega arith)

-- ---- a list that is joined
pub none_as_shot : as_shot no_entry ≡ no_shot
unfolding as_shot
none_as_shot = refl

module _ (l : List ℕ) (t : List Joined) (good : bad_shots l ≡ false) (fits : length l / 4 ≤ length t) where
  abbrev n : ℕ
  n = length l / 4

  abbrev s : List Joined
  s = filled l t n

  abbrev v : List Joined
  v = paired s n n

  fours : length l % 4 ≡ 0
  fours = (good-shots l good).fours

  count : length (shots_in l) ≡ n
  count = shots-count l fours

  free : AllFree s n
  free = record { room = omega (arith, fits, length-filled l t n); own = λ i h. partner_filled l t n i fits h }

  -- the front of the table shows the shots of the list
  shot-is : (i : ℕ) → i < n → shot_at v i ≡ nth (shots_in l) i
  shot-is i h = paired-shot s n free n (omega arith) i ∙ ap as_shot (at-filled l t n i fits h) ∙ sym (nth-shots l i (omega (arith, fours)))

  shown : (i : ℕ) → i < n → get_or (map as_shot (take n v)) i no_shot ≡ nth (shots_in l) i
  unfolding at
  shown i h =
      ap (get_or (map as_shot (take n v)) i) (sym none_as_shot) ∙ get_or-map as_shot (take n v) i no_entry ∙ ap as_shot (get_or-take n v i no_entry h) ∙ shot-is i h

  size : length (map as_shot (take n v)) ≡ n
  size = length-map (take n v) as_shot ∙ length-take-le n v (omega (arith, fits, length-paired s n n, length-filled l t n))

  all_shown : map as_shot (take n v) ≡ shots_in l
  all_shown = ext_get_or no_shot (map as_shot (take n v)) (shots_in l) (size ∙ sym count) (λ i h. shown i (omega (arith, size)))

  fair : Fair v n n
  fair = paired_fair s n free n (omega arith)

  as_listed : (i j : ℕ) → i < n → j < n → can_join (nth (shots_in l) i) (nth (shots_in l) j) ≡ can_join (shot_at v i) (shot_at v j)
  as_listed i j hi hj = ap₂ can_join (sym (shot-is i hi)) (sym (shot-is j hj))

  greedy : Greedy (shots_in l) (partner_at v)
  greedy =
      record {
        within = λ i h. omega (arith, count, fair.within.below i (omega (arith, count)));
        back = λ i h. fair.back i (omega (arith, count));
        joins = λ i h d.
            let k : i < n = omega (arith, count) in
            as_listed i (partner_at v i) k (fair.within.below i k) ∙ fair.joined i k d;
        first = λ i j p h x y z.
            let k : j < n = omega (arith, count) in
            fair.took i j (omega arith) p k x y (sym (as_listed i j (omega arith) k) ∙ z);
      }

  ok : 0 ≡ refusal l (length t)
  unfolding refusal
  ok = let r : length (shots_in l) ≤ length t = omega (arith, count, fits) in simp (good, le-ltb (length t) (length (shots_in l)) r)

  joins : Joins (shots_in l) t (join_told (Ok (n - pairs_to s n n)) v)
  joins =
      record {
        shots = ap (λ (m : ℕ). map as_shot (take m v)) count ∙ all_shown;
        greedy = greedy;
        beyond = ap (λ (m : ℕ). drop m v) count ∙ paired-beyond s n n (within-filled l t n fits) (omega arith) ∙ filled-beyond l t n n (omega arith) ∙ ap (λ (m : ℕ). drop m t) (sym count);
        flashes = ap₂ ◌-◌ (sym count) (paired-pairs s n free n (omega arith) ∙ ap (pairs (partner_at v)) (sym count));
      }

  joined-said : Promise l t (join_told (Ok (n - pairs_to s n n)) v)
  joined-said = record { number = ok; refused = λ d. absurd (d refl); joined = λ z. joins }

-- ---- a list that is refused
refused-said : (l : List ℕ) (t : List Joined) (why : Refusal) → refusal_no why ≡ refusal l (length t) → Promise l t (join_told (Err why) t)
refused-said l t why e = record { number = e; refused = λ d. (refl, refl); joined = λ z. absurd (omega (arith, refusal-some why)) }

-- ---- the call
module _ (l : List ℕ) (t : List Joined) where
  abbrev pub outcome : Result ℕ Refusal → JoinSaid
  outcome (Ok n) = join_told (Ok (n - pairs_to (filled l t n) n n)) (paired (filled l t n) n n)
  outcome (Err why) = join_told (Err why) t

  says-by : (b d : Bool) → bad_shots l ≡ b → ltb (length t) (length l / 4) ≡ d → Promise l t (outcome (checked l (length t)))
  unfolding checked refusal
  says-by true d e g = let z : 21 ≡ refusal l (length t) = simp e in simp e (refused-said l t Shots z)
  says-by false true e g =
      let k : length t < length (shots_in l) = omega (arith, shots-count l (good-shots l e).fours, ltb-true (length t) (length l / 4) g) in
      let z : 14 ≡ refusal l (length t) = simp (e, lt-ltb (length t) (length (shots_in l)) k) in
      simp (e, g) (refused-said l t Room z)
  says-by false false e g = simp (e, g) (joined-said l t e (ltb-false (length t) (length l / 4) g))

  pub says : Promise l t (outcome (checked l (length t)))
  says = says-by (bad_shots l) (ltb (length t) (length l / 4)) refl refl

  pub call_refused : (why : Refusal) → Err why ≡ checked l (length t) → Promise l t (join_told (Err why) t)
  call_refused why h = subst (λ (c : Result ℕ Refusal). Promise l t (outcome c)) (sym h) says

  pub call_joined : (n : ℕ) → Ok n ≡ checked l (length t) → (u v : List Joined) (pairs : ℕ) → u ≡ filled l t n → (pairs ≡ pairs_to u n n) × (v ≡ paired u n n)
      → Promise l t (join_told (Ok (n - pairs)) v)
  call_joined n h u v pairs hu hp = simp (hp.0, hp.1, hu) (subst (λ (c : Result ℕ Refusal). Promise l t (outcome c)) (sym h) says)
