-- When a fracture with a largest side is refused: the number is that of the first condition that holds, in the order 1, 19, 2 to 7.
-- Assumes nothing.
--
--   turn_one             == no two refusals have the same turn
--   first_one            == no two conditions are both the first that holds
--   Answered, answered   == none holds and 0 is given, or the number of the first that holds is
use Prim.Native.Nat.{ℕ, ◌*◌, ◌≤◌, ◌<◌}
use mathlib.Core.Path.{◌≡◌, refl, sym, ◌∙◌, ap, subst}
use mathlib.Core.Bool.{Bool, true, false, cond, not, true≢false}
use mathlib.Core.Logic.{◌⊎◌, inl, inr}
use native.Mathlib.Omega.{arith}
use lib.Dec.{eqb}
use lib.ListN.{length}
use borrow.Author.Tests.{eqb-true}
use Rattle.sum.specs.Sum.{sum_of}
use Rattle.sum.proofs.Sum.{le-or}
use Rattle.refusal.specs.declared.Refusal.{Refusal}
use Rattle.refusal.specs.declared.Refusal.TheVariants as because
use Rattle.refusal.specs.Refusals.{refusal_no}
use Rattle.refusal.proofs.Refusals.{refusal-one, refusal-some}
use Rattle.rule.specs.Rules.{in_range}
use Rattle.demands.specs.Promise.{Asked, Outcome, refused, outcome}
use Rattle.demands.specs.Refusals as undivided
use Rattle.demands.specs.Demands.{Words, reported}
use Rattle.demands.proofs.Refusals.{test, test_true, true_test}
use Rattle.demands.proofs.Demands as demands
use Rattle.division.specs.Division.{product}
use Rattle.division.specs.Promise.{bad_largest, aside, parts, divided_outcome, turn, Condition, largest, short, before, First}
use Rattle.division.proofs.Written.{joined_length}
use Rattle.division.proofs.Outcome.{Outside, largest_bad, bad_largest_lem, short_of, done_of, Passed, Short, Accepted, Stage, at-rule, at-largest, at-figure, at-list, at-end, stage}

-- Turns

turn_is : (c : Refusal) → ((refusal_no c ≡ 19) × (turn c ≡ 3)) ⊎ (turn c ≡ 2 * refusal_no c)
unfolding turn
turn_is c = go (eqb (refusal_no c) 19) refl
  where
    go : (b : Bool) → eqb (refusal_no c) 19 ≡ b → ((refusal_no c ≡ 19) × (cond b 3 (2 * refusal_no c) ≡ 3)) ⊎ (cond b 3 (2 * refusal_no c) ≡ 2 * refusal_no c)
    go true e = inl (eqb-true (refusal_no c) 19 e, refl)
    go false e = inr refl

turn-least : (c : Refusal) → 2 ≤ turn c
turn-least c = elim (turn_is c) [
  | inl q ↦ omega (arith, q.1)
  | inr q ↦ omega (arith, q, refusal-some c)
]

turn_below : (c : Refusal) → refusal_no c < 7 → turn c ≡ 2 * refusal_no c
turn_below c h = elim (turn_is c) [
  | inl q ↦ absurd (omega (arith, q.0))
  | inr q ↦ q
]

turn-largest : turn because.Largest ≡ 3
unfolding turn
turn-largest = refl

turn-list : turn because.List ≡ 14
unfolding turn
turn-list = refl

turn-rule : turn because.Rule ≡ 2
unfolding turn
turn-rule = refl

pub turn_one : (c d : Refusal) → turn c ≡ turn d → c ≡ d
turn_one c d e = refusal-one c d (elim (turn_is c) [
  | inl p ↦ elim (turn_is d) [
    | inl q ↦ omega (arith, p.0, q.0)
    | inr q ↦ absurd (omega (arith, p.1, q, e))
  ]
  | inr p ↦ elim (turn_is d) [
    | inl q ↦ absurd (omega (arith, p, q.1, e))
    | inr q ↦ omega (arith, p, q, e)
  ]
])

module _ (ask : Asked) (m : ℕ) where
  abbrev u : Outcome
  u = outcome (aside ask)

  abbrev o : Outcome
  o = divided_outcome ask m

  abbrev Holds : Refusal → Type 0
  Holds c = Condition ask m c

  pub first_one : (c d : Refusal) → First ask m c → First ask m d → c ≡ d
  first_one c d f g = elim (le-or (turn c) (turn d)) [
    | inl p ↦ elim (le-or (turn d) (turn c)) [
      | inl q ↦ turn_one c d (omega arith)
      | inr q ↦ absurd (g.earlier c q f.holds)
    ]
    | inr p ↦ absurd (f.earlier d p g.holds)
  ]

  -- 1 and 19 that are passed do not hold
  not-largest : bad_largest ask.threshold m ≡ false → Outside ask.threshold m → ⊥
  not-largest e h = true≢false (sym (bad_largest_lem ask.threshold m h) ∙ e)

  not-rule : in_range ask.threshold ask.weight ≡ true → undivided.Condition (aside ask) because.Rule → ⊥
  unfolding test
  not-rule e h = true≢false (sym (true_test (aside ask) because.Rule h) ∙ ap not e)

  parts_sum : length (parts m u) ≡ sum_of (product m) (reported u)
  unfolding parts
  parts_sum = joined_length m (reported u)

  pub data Answered : Type 0 where
    none : o.number ≡ 0 → ((c : Refusal) → Holds c → ⊥) → Answered
    some : (c : Refusal) → o.number ≡ refusal_no c → First ask m c → Answered

  pub answered : Words ask.figure → Answered
  unfolding refused short_of done_of
  answered words = go (stage ask m words)
    where
      rule-first : in_range ask.threshold ask.weight ≡ false → First ask m because.Rule
      rule-first e =
          record {
            holds = before (omega arith) (test_true (aside ask) because.Rule (unfold test in ap not e));
            earlier = λ s q k. omega (arith, turn-rule, turn-least s, q);
          }

      largest-first : in_range ask.threshold ask.weight ≡ true → bad_largest ask.threshold m ≡ true → First ask m because.Largest
      largest-first e f = record { holds = largest refl (largest_bad ask.threshold m f); earlier = earlier }
        where
          earlier : (s : Refusal) → turn s < turn because.Largest → Holds s → ⊥
          earlier s q (largest z b) = omega (arith, q, ap turn z)
          earlier s q (short z b) = omega (arith, q, ap turn z, turn-list, turn-largest)
          earlier s q (before z b) =
              let one : s ≡ because.Rule = refusal-one s because.Rule (omega (arith, q, turn_below s z, turn-largest, refusal-some s)) in
              not-rule e (subst (undivided.Condition (aside ask)) one b)

      figure-first : Passed ask m → (c : Refusal) → refusal_no c < 7 → u.number ≡ refusal_no c → First ask m c
      figure-first p c h e = record { holds = before h f.holds; earlier = earlier }
        where
          f : undivided.First (aside ask) c
          f = (demands.refused_exactly (aside ask) c).0 e

          earlier : (s : Refusal) → turn s < turn c → Holds s → ⊥
          earlier s q (largest z b) = not-largest p.fits b
          earlier s q (short z b) = omega (arith, q, ap turn z, turn-list, turn_below c h)
          earlier s q (before z b) = f.before s (omega (arith, q, turn_below s z, turn_below c h)) b

      list-first : Short ask m → First ask m because.List
      list-first s = record { holds = short refl (omega (arith, s.room, parts_sum)); earlier = earlier }
        where
          earlier : (c : Refusal) → turn c < turn because.List → Holds c → ⊥
          earlier c q (largest z b) = not-largest s.passed.fits b
          earlier c q (short z b) = omega (arith, q, ap turn z)
          earlier c q (before z b) = (demands.accepted_exactly (aside ask)).0 s.fractured c b

      none-holds : Accepted ask m → (c : Refusal) → Holds c → ⊥
      none-holds a c (largest z b) = not-largest a.passed.fits b
      none-holds a c (short z b) = omega (arith, a.room, b, parts_sum)
      none-holds a c (before z b) = (demands.accepted_exactly (aside ask)).0 a.fractured c b

      go : Stage ask m → Answered
      go (at-rule e q) = some because.Rule (ap (λ (o : Outcome). o.number) q) (rule-first e)
      go (at-largest e f q) = some because.Largest (ap (λ (o : Outcome). o.number) q) (largest-first e f)
      go (at-figure p c h e q) = some c (ap (λ (o : Outcome). o.number) q) (figure-first p c h e)
      go (at-list s) = some because.List (ap (λ (o : Outcome). o.number) s.is) (list-first s)
      go (at-end a) = none (ap (λ (o : Outcome). o.number) a.is) (none-holds a)
