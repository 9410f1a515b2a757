-- Which number the call gives, of any answer and table that its promise allows.
--
--   shots_exactly    == 21 exactly if the list is no list of shots with area
--   room_exactly     == 14 exactly if it is one and the table has fewer entries than it has shots
--   joined_exactly   == no refusal exactly if it is one and the table is long enough
--   written-beyond   == behind an entry for each shot every entry of the table is as it came in, and all of them beside a refusal
--   answer-length    == the table stays as long as it is
use Prim.Native.Nat.{ℕ, ◌+◌, ◌-◌, ◌<◌, ◌≤◌}
use native.Mathlib.Omega.{arith}
use mathlib.Core.Path.{◌≡◌, refl, sym, ◌∙◌, ap}
use mathlib.Core.Logic.{◌⊎◌, inl, inr}
use mathlib.Core.Bool.{Bool, true, false, true≢false}
use mathlib.Core.List.{List, map}
use lib.Dec.{eqb, ltb}
use lib.ListN.{length, get_or, take, drop, length-map, length-drop}
use lib.Seq.{take_all, get_or-drop}
use borrow.Author.Tests.{eqb-true, eqb-false, ltb-true, ltb-false}
use Rattle.sum.proofs.Sum.{le-or}
use Rattle.shot.specs.Shot.{Shot, shots_in}
use Rattle.shot.specs.Bad.{bad_shots}
use Rattle.join.specs.declared.Joined.{Joined}
use Rattle.std.specs.Prelude.{Result, Ok, Err}
use Rattle.refusal.specs.declared.Refusal.{Refusal}
use Rattle.join.specs.Join.{as_shot, refusal, JoinSaid, join_told, Joins, Promise}

data Number (l : List ℕ) (room : ℕ) : Type 0 where
  bad : bad_shots l ≡ true → refusal l room ≡ 21 → Number l room
  short : bad_shots l ≡ false → room < length (shots_in l) → refusal l room ≡ 14 → Number l room
  fits : bad_shots l ≡ false → length (shots_in l) ≤ room → refusal l room ≡ 0 → Number l room

number_by : (l : List ℕ) (room : ℕ) (b d : Bool) → bad_shots l ≡ b → ltb room (length (shots_in l)) ≡ d → Number l room
unfolding refusal
number_by l room true d e g = bad e (simp e)
number_by l room false true e g = short e (ltb-true room (length (shots_in l)) g) (simp (e, g))
number_by l room false false e g = fits e (ltb-false room (length (shots_in l)) g) (simp (e, g))

number : (l : List ℕ) (room : ℕ) → Number l room
number l room = number_by l room (bad_shots l) (ltb room (length (shots_in l))) refl refl

module _ (l : List ℕ) (t : List Joined) (s : JoinSaid) (p : Promise l t s) where
  pub shots_exactly : (bad_shots l ≡ true → s.number ≡ 21) × (s.number ≡ 21 → bad_shots l ≡ true)
  shots_exactly = by (number l (length t))
    where
      by : Number l (length t) → (bad_shots l ≡ true → s.number ≡ 21) × (s.number ≡ 21 → bad_shots l ≡ true)
      by (bad e h) = (λ z. p.number ∙ h, λ z. e)
      by (short e k h) = (λ z. absurd (true≢false (sym z ∙ e)), λ z. absurd (omega (arith, p.number, h)))
      by (fits e k h) = (λ z. absurd (true≢false (sym z ∙ e)), λ z. absurd (omega (arith, p.number, h)))

  pub room_exactly : ((bad_shots l ≡ false) × (length t < length (shots_in l)) → s.number ≡ 14) × (s.number ≡ 14 → (bad_shots l ≡ false) × (length t < length (shots_in l)))
  room_exactly = by (number l (length t))
    where
      by : Number l (length t) → ((bad_shots l ≡ false) × (length t < length (shots_in l)) → s.number ≡ 14) × (s.number ≡ 14 → (bad_shots l ≡ false) × (length t < length (shots_in l)))
      by (bad e h) = (λ z. absurd (true≢false (sym e ∙ z.0)), λ z. absurd (omega (arith, p.number, h)))
      by (short e k h) = (λ z. p.number ∙ h, λ z. (e, k))
      by (fits e k h) = (λ z. absurd (omega (arith, z.1)), λ z. absurd (omega (arith, p.number, h)))

  pub joined_exactly : ((bad_shots l ≡ false) × (length (shots_in l) ≤ length t) → s.number ≡ 0) × (s.number ≡ 0 → (bad_shots l ≡ false) × (length (shots_in l) ≤ length t))
  joined_exactly = by (number l (length t))
    where
      by : Number l (length t) → ((bad_shots l ≡ false) × (length (shots_in l) ≤ length t) → s.number ≡ 0) × (s.number ≡ 0 → (bad_shots l ≡ false) × (length (shots_in l) ≤ length t))
      by (bad e h) = (λ z. absurd (true≢false (sym e ∙ z.0)), λ z. absurd (omega (arith, p.number, h)))
      by (short e k h) = (λ z. absurd (omega (arith, z.1)), λ z. absurd (omega (arith, p.number, h)))
      by (fits e k h) = (λ z. p.number ∙ h, λ z. (e, k))

-- ---- behind what is written
drop-beyond : (m : ℕ) (u t : List Joined) → drop m u ≡ drop m t → (i : ℕ) (d : Joined) → m ≤ i → get_or u i d ≡ get_or t i d
drop-beyond m u t e i d h =
    let n : ℕ = i - m in
    let z : i ≡ m + n = omega arith in
    ap (λ k. get_or u k d) z ∙ sym (get_or-drop m u n d) ∙ ap (λ (v : List Joined). get_or v n d) e ∙ get_or-drop m t n d ∙ ap (λ k. get_or t k d) (sym z)

pub written-beyond : (l : List ℕ) (t : List Joined) (s : JoinSaid) → Promise l t s
    → ((i : ℕ) (d : Joined) → length (shots_in l) ≤ i → get_or s.table i d ≡ get_or t i d)
    × ((s.number ≡ 0 → ⊥) → (i : ℕ) (d : Joined) → get_or s.table i d ≡ get_or t i d)
written-beyond l t s p = (behind (eqb s.number 0) refl, refused)
  where
    refused : (s.number ≡ 0 → ⊥) → (i : ℕ) (d : Joined) → get_or s.table i d ≡ get_or t i d
    refused z i d = ap (λ (u : List Joined). get_or u i d) (p.refused z).1

    behind : (b : Bool) → eqb s.number 0 ≡ b → (i : ℕ) (d : Joined) → length (shots_in l) ≤ i → get_or s.table i d ≡ get_or t i d
    behind true e i d h = drop-beyond (length (shots_in l)) s.table t (p.joined (eqb-true s.number 0 e)).beyond i d h
    behind false e i d h = refused (eqb-false s.number 0 e) i d

-- ---- the table's length
long-by : (l : List Shot) (u : List Joined) → map as_shot (take (length l) u) ≡ l → (length l ≤ length u) ⊎ (length u < length l) → length l ≤ length u
long-by l u e (inl h) = h
long-by l u e (inr h) =
    let n : length l ≤ length u = omega (arith, ap length e, length-map (take (length l) u) as_shot, ap length (take_all (length l) u (omega arith))) in n

kept-length : (l : List Shot) (t : List Joined) (s : JoinSaid) → length l ≤ length t → Joins l t s → length s.table ≡ length t
kept-length l t s h j =
    omega (arith, long-by l s.table j.shots (le-or (length l) (length s.table)), ap length j.beyond, length-drop (length l) s.table, length-drop (length l) t)

length-by : (l : List ℕ) (t : List Joined) (s : JoinSaid) → Promise l t s → (b : Bool) → eqb s.number 0 ≡ b → length s.table ≡ length t
length-by l t s p true e =
    let z = eqb-true s.number 0 e in kept-length (shots_in l) t s ((joined_exactly l t s p).1 z).1 (p.joined z)
length-by l t s p false e = ap length (p.refused (eqb-false s.number 0 e)).1

answer-by : (l : List ℕ) (t u : List Joined) (r : Result ℕ Refusal) → Promise l t (join_told r u) → length (join_told r u).table ≡ length t → length u ≡ length t
answer-by l t u (Ok n) p h = h
answer-by l t u (Err why) p h = h

pub answer-length : (l : List ℕ) (t u : List Joined) (r : Result ℕ Refusal) → Promise l t (join_told r u) → length u ≡ length t
answer-length l t u r p = answer-by l t u r p (length-by l t (join_told r u) p (eqb (join_told r u).number 0) refl)
