-- The call settles everything: one list and one table have one answer and one table after it.
--
--   join-settled    == two outcomes that the promise allows are the same
--   answer-settled  == so are two answers of the call, and the tables that they leave
use Prim.Native.Nat.{ℕ, ◌-◌, ◌<◌}
use native.Mathlib.Omega.{arith}
use mathlib.Core.Path.{◌≡◌, refl, sym, ◌∙◌, ap, ap₂}
use mathlib.Core.Bool.{Bool, true, false}
use mathlib.Core.List.{List, ◌++◌, map}
use lib.Dec.{ltb, eqb}
use lib.ListN.{length, get_or, take, length-map, take-append-drop, get_or-map}
use lib.Seq.{get_or-take, ext_get_or}
use borrow.Author.Tests.{eqb-true, eqb-false}
use Rattle.sum.specs.Sum.{only}
use Rattle.sum.proofs.Sum.{over-same}
use Rattle.refusal.proofs.Refusals.{refusal-one, refusal-some}
use Rattle.shot.specs.Shot.{Shot, shots_in}
use Rattle.join.specs.declared.Joined.{Joined}
use Rattle.std.specs.Prelude.{Result, Ok, Err}
use Rattle.refusal.specs.declared.Refusal.{Refusal}
use Rattle.join.specs.Join.{at, nth, no_shot, no_entry, as_shot, partner_at, pairs, JoinSaid, join_told, Joins, Promise}
use Rattle.join.proofs.Greedy.{greedy-one}
use Rattle.join.proofs.Promised.{none_as_shot}

-- ---- an entry is its shot and its partner
entry-one : (d e : Joined) → as_shot d ≡ as_shot e → d.partner ≡ e.partner → d ≡ e
unfolding as_shot
entry-one d e s p =
    let w : d.x_low ≡ e.x_low = ap (λ (z : Shot). z.xlow) s in
    let x : d.y_low ≡ e.y_low = ap (λ (z : Shot). z.ylow) s in
    let y : d.x_high ≡ e.x_high = ap (λ (z : Shot). z.xhigh) s in
    let z : d.y_high ≡ e.y_high = ap (λ (z : Shot). z.yhigh) s in
    λ i. record { x_low = w i; y_low = x i; x_high = y i; y_high = z i; partner = p i }

module _ (l : List Shot) (t : List Joined) (s s' : JoinSaid) (j : Joins l t s) (j' : Joins l t s') where
  size_of : (u : List Joined) → map as_shot (take (length l) u) ≡ l → length (take (length l) u) ≡ length l
  size_of u e = sym (length-map (take (length l) u) as_shot) ∙ ap length e

  shot_of : (u : List Joined) → map as_shot (take (length l) u) ≡ l → (i : ℕ) → as_shot (get_or (take (length l) u) i no_entry) ≡ nth l i
  shot_of u e i =
      sym (get_or-map as_shot (take (length l) u) i no_entry) ∙ ap (get_or (map as_shot (take (length l) u)) i) none_as_shot ∙ ap (λ (m : List Shot). get_or m i no_shot) e

  partner_of : (u : List Joined) (i : ℕ) → i < length l → (get_or (take (length l) u) i no_entry).partner ≡ partner_at u i
  unfolding at
  partner_of u i h = ap (λ (e : Joined). e.partner) (get_or-take (length l) u i no_entry h)

  partners_one : (i : ℕ) → i < length l → partner_at s.table i ≡ partner_at s'.table i
  partners_one = greedy-one l (partner_at s.table) (partner_at s'.table) j.greedy j'.greedy

  entries-one : (i : ℕ) → i < length l → get_or (take (length l) s.table) i no_entry ≡ get_or (take (length l) s'.table) i no_entry
  entries-one i h =
      entry-one (get_or (take (length l) s.table) i no_entry) (get_or (take (length l) s'.table) i no_entry)
      (shot_of s.table j.shots i ∙ sym (shot_of s'.table j'.shots i))
      (partner_of s.table i h ∙ partners_one i h ∙ sym (partner_of s'.table i h))

  front-one : take (length l) s.table ≡ take (length l) s'.table
  front-one =
      ext_get_or no_entry (take (length l) s.table) (take (length l) s'.table) (size_of s.table j.shots ∙ sym (size_of s'.table j'.shots))
      (λ i h. entries-one i (omega (arith, size_of s.table j.shots)))

  table-one : s.table ≡ s'.table
  table-one =
      sym (take-append-drop (length l) s.table) ∙ ap₂ ◌++◌ front-one (j.beyond ∙ sym j'.beyond) ∙ take-append-drop (length l) s'.table

  flashes-one : s.flashes ≡ s'.flashes
  unfolding pairs
  flashes-one =
      j.flashes
      ∙ ap (λ (m : ℕ). length l - m)
      (over-same 0 (length l) (λ i. only (ltb i (partner_at s.table i)) 1) (λ i. only (ltb i (partner_at s'.table i)) 1) (λ i p q. ap (λ (m : ℕ). only (ltb i m) 1) (partners_one i q)))
      ∙ sym j'.flashes

said-one : (s s' : JoinSaid) → s.number ≡ s'.number → s.flashes ≡ s'.flashes → s.table ≡ s'.table → s ≡ s'
said-one s s' e f g = λ i. record { number = e i; flashes = f i; table = g i }

settled-by : (l : List ℕ) (t : List Joined) (s s' : JoinSaid) → Promise l t s → Promise l t s' → (b : Bool) → eqb s.number 0 ≡ b → s ≡ s'
settled-by l t s s' p q true e =
    let n : s.number ≡ s'.number = p.number ∙ sym q.number in
    let z : s.number ≡ 0 = eqb-true s.number 0 e in
    let j = p.joined z in
    let k = q.joined (sym n ∙ z) in
    said-one s s' n (flashes-one (shots_in l) t s s' j k) (table-one (shots_in l) t s s' j k)
settled-by l t s s' p q false e =
    let n : s.number ≡ s'.number = p.number ∙ sym q.number in
    let r = p.refused (eqb-false s.number 0 e) in
    let r' = q.refused (λ z. eqb-false s.number 0 e (n ∙ z)) in
    said-one s s' n (r.0 ∙ sym r'.0) (r.1 ∙ sym r'.1)

pub join-settled : (l : List ℕ) (t : List Joined) (s s' : JoinSaid) → Promise l t s → Promise l t s' → s ≡ s'
join-settled l t s s' p q = settled-by l t s s' p q (eqb s.number 0) refl

-- ---- two answers that tell the same are the same
answer-one : (r r' : Result ℕ Refusal) (u u' : List Joined) → join_told r u ≡ join_told r' u' → r ≡ r'
answer-one (Ok n) (Ok n') u u' e = ap (λ (s : JoinSaid). Ok s.flashes) e
answer-one (Ok n) (Err why) u u' e = let z = ap (λ (s : JoinSaid). s.number) e in absurd (omega (arith, z, refusal-some why))
answer-one (Err why) (Ok n) u u' e = let z = ap (λ (s : JoinSaid). s.number) e in absurd (omega (arith, z, refusal-some why))
answer-one (Err why) (Err why') u u' e = ap (λ (w : Refusal). Err w) (refusal-one why why' (ap (λ (s : JoinSaid). s.number) e))

table_of : (r : Result ℕ Refusal) (u : List Joined) → (join_told r u).table ≡ u
table_of (Ok n) u = refl
table_of (Err why) u = refl

pub answer-settled : (l : List ℕ) (t : List Joined) (r r' : Result ℕ Refusal) (u u' : List Joined) → Promise l t (join_told r u) → Promise l t (join_told r' u') → (r ≡ r') × (u ≡ u')
answer-settled l t r r' u u' p q =
    let e = join-settled l t (join_told r u) (join_told r' u') p q in
    (answer-one r r' u u' e, sym (table_of r u) ∙ ap (λ (s : JoinSaid). s.table) e ∙ table_of r' u')
