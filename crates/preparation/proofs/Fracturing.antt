-- Laws of what a fracture answers where its room is ample. Assumes nothing.
--
--   ample_number       == the outcome's number is the figure's own refusal, 2 to 5, or 0
--   outcome_of         == the outcome of two lists that are those of a figure
--   told-listed        == the list beside an answer holds its shots
--   told-refused       == the answer is a refusal where the figure has one
use Prim.Native.Nat.{ℕ, ◌*◌, ◌≤◌}
use mathlib.Core.Path.{◌≡◌, sym, ◌∙◌, ap, ap₂}
use mathlib.Core.Logic.{inl, inr}
use mathlib.Core.Bool.{true, not}
use mathlib.Core.List.{List}
use native.Mathlib.Omega.{arith}
use lib.Dec.{eqb}
use lib.ListN.{length}
use borrow.Author.Tests.{eq-eqb, ne_eqb}
use Rattle.std.specs.Prelude.{Result, Ok, Err}
use Rattle.std.specs.Result.{is_err}
use Rattle.sum.proofs.Sum.{le-or}
use Rattle.refusal.specs.declared.Refusal.TheVariants as because
use Rattle.refusal.specs.Refusals.{refusal_no}
use Rattle.refusal.proofs.Refusals.{refusal-some}
use Rattle.rule.specs.Rules.{in_range}
use Rattle.figure.specs.Figure.{Figure}
use Rattle.outline.specs.Promise.{refusal}
use Rattle.table.specs.Entry.{entry_count}
use Rattle.piece.specs.declared.Mode.TheVariants.{Straight}
use Rattle.demands.specs.Promise.{Asked, asked, drawn, rule_of, frame_shots, Outcome, refused, outcome}
use Rattle.demands.specs.Refusals.{Condition}
use Rattle.demands.specs.Demands.{Words}
use Rattle.demands.proofs.Outcome.{accepted, short, outcome-figure, outcome-table, outcome-list, outcome-accepted, outcome-zero}
use Rattle.demands.proofs.Refusals.{outcome-number, number-none}
use Rattle.demands.proofs.Room.{lengths-kept, ample}
use Rattle.fracture.specs.declared.Fractured.{Fractured}
use Rattle.fracture.specs.declared.Denial.{Denial}
use Rattle.fracture.specs.Told.{told}
use Rattle.preparation.specs.Lines.{Listed}

module _ (ask : Asked) (range : in_range ask.threshold ask.weight ≡ true) (words : Words ask.figure) (entries : 14400 ≤ length ask.table)
    (room : 900 ≤ length ask.list) where
  -- of a figure that is accepted
  good-number : refusal ask.figure ≡ 0 → (outcome ask).number ≡ 0
  unfolding refused short accepted
  good-number z = elim (le-or (entry_count (drawn ask).columns (drawn ask).rows) (length ask.table)) [
    | inr h ↦ absurd ((ample ask words entries room).0 (ap (λ (o : Outcome). o.number) (outcome-table ask range z h)))
    | inl h ↦ elim (le-or (4 * length (frame_shots ask.mode (drawn ask) (rule_of ask))) (length ask.list)) [
      | inr k ↦ absurd ((ample ask words entries room).1 (ap (λ (o : Outcome). o.number) (outcome-list ask range z h k)))
      | inl k ↦ ap (λ (o : Outcome). o.number) (outcome-accepted ask range z h k)
    ]
  ]

  pub ample_number : (outcome ask).number ≡ refusal ask.figure
  unfolding refused
  ample_number = elim (le-or (refusal ask.figure) 0) [
    | inl h ↦ (let z : refusal ask.figure ≡ 0 = omega arith in good-number z ∙ sym z)
    | inr h ↦ ap (λ (o : Outcome). o.number) (outcome-figure ask range h)
  ]

  pub told-refused : (a : Result Fractured Denial) (table list : List ℕ) → told a table list ≡ outcome ask → is_err a ≡ not (eqb (refusal ask.figure) 0)
  unfolding told
  told-refused (Ok f) table list e =
      let z : 0 ≡ refusal ask.figure = ap (λ (o : Outcome). o.number) e ∙ ample_number in
      sym (ap not (eq-eqb (refusal ask.figure) 0 (sym z)))
  told-refused (Err d) table list e =
      let z : refusal_no d.why ≡ refusal ask.figure = ap (λ (o : Outcome). o.number) e ∙ ample_number in
      let some = refusal-some d.why in
      sym (ap not (ne_eqb (refusal ask.figure) 0 (λ n. omega arith)))

pub told-listed : (ask : Asked) (a : Result Fractured Denial) (table list : List ℕ) → told a table list ≡ outcome ask → Listed a (length list)
unfolding told Condition accepted
told-listed ask (Ok f) table list e =
    let zero : 0 ≡ (outcome ask).number = ap (λ (o : Outcome). o.number) e in
    let n : f.shots ≡ length (frame_shots ask.mode (drawn ask) (rule_of ask)) =
    ap (λ (o : Outcome). o.shots) (e ∙ outcome-zero ask (sym zero))
    in
    let l : length list ≡ length ask.list = ap (λ (o : Outcome). length o.list) e ∙ (lengths-kept ask).1 in
    elim (le-or (4 * length (frame_shots ask.mode (drawn ask) (rule_of ask))) (length ask.list)) [
      | inl h ↦ omega (arith, n, l)
      | inr h ↦ absurd (number-none ask (sym (outcome-number ask) ∙ sym zero) because.List h)
    ]
told-listed ask (Err d) table list e = tt

pub outcome_of : (f : Figure) (l ns : List ℕ) (t w : ℕ) (table list : List ℕ) {o : Outcome} → o ≡ outcome (asked Straight l ns t w table list)
    → l ≡ f.numbers → ns ≡ f.lengths → o ≡ outcome (record { mode = Straight; figure = f; threshold = t; weight = w; table = table; list = list })
outcome_of f l ns t w table list e p q = e ∙ ap₂ (λ (a b : List ℕ). outcome (asked Straight a b t w table list)) p q
