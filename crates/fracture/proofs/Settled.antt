-- Each way that a fracture ends tells the outcome; and no two answers tell the same. Assumes nothing.
--
--   told-rule           : 1, of a rule that is not in range
--   told-figure         : 2 to 5, of a figure that is refused
--   answered            : the refusal of a figure is the number of its drawing's answer
--   laid-drawing        : the grid of an accepted drawing lies in memory as the fracture of a grid expects it
--   accepted, drawn-laid, drawn-cells, told-refused, ahead-refused : the same of what `draw` answers
--   told-grid           : what its grid gives is what the figure gives
--   rule-range, rule-outcome     : the rule that was made of two numbers is in range, and what it gives is the outcome of the two numbers
--   preset_range, preset_outcome, preset_known : the same of the default preset, which is known
--   ahead-figure, ahead-cuts     : what is told ahead, of a figure that is refused and of one that is not
--   laid-shaded         : the cells of an accepted drawing are those that are counted
--   ahead_apart         : forecasts that tell the same are the same
--   told-apart          : answers that tell the same are the same
--   fracture_unique     : two ways to satisfy a promise are one: the same answer, and the same in both buffers
use Prim.Native.Nat.{ℕ}
use Rattle.std.specs.Prelude.{Result, Ok, Err, ⊤}
use mathlib.Core.Path.{◌≡◌, refl, ap, ap₂, sym, ◌∙◌}
use mathlib.Core.Bool.{Bool, true, false, cond}
use mathlib.Core.List.{List}
use native.Mathlib.Omega.{arith}
use lib.Dec.{eqb}
use lib.ListN.{length}
use borrow.Author.Tests.{eq-eqb, ne_eqb}
use Rattle.refusal.specs.declared.Refusal.{Refusal}
use Rattle.refusal.specs.Refusals.{refusal_no}
use Rattle.refusal.proofs.Refusals.{refusal-one, refusal-some}
use Rattle.rule.specs.declared.Rule.{Rule}
use Rattle.rule.specs.Rules.{in_range, Told, given, refused as unknown, rule_told, preset_told, default_preset}
use Rattle.rule.proofs.Rules.{rule-made}
use Rattle.figure.specs.Figure.{Figure}
use Rattle.outline.specs.declared.Drawing.{Drawing}
use Rattle.outline.specs.Grid.{Grid, Memory, memory}
use Rattle.outline.specs.Inside.{grid}
use Rattle.outline.specs.Promise.{answer_no, refusal, Sheet, sheet, Promise}
use Rattle.outline.proofs.Memory.{drawing-columns, drawing-rows, drawing-drawn, drawing-stored, drawing-lengths}
use Rattle.piece.specs.declared.Mode.{Mode}
use Rattle.piece.specs.declared.Mode.TheVariants.{Straight}
use Rattle.demands.specs.Cuts.{weighed_cuts, ahead}
use Rattle.count.specs.Count.{Shaded}
use Rattle.demands.specs.Promise.{Asked, rule_of, Outcome, refused, gridded, ruled, outcome}
use Rattle.demands.proofs.Outcome.{outcome-rule}
use Rattle.fracture.specs.declared.Fractured.{Fractured}
use Rattle.fracture.specs.declared.Denial.{Denial}
use Rattle.fracture.specs.Delivery.{Laid}
use Rattle.fracture.specs.Told.{fractured, denied, told, by_default, ahead_told}

module _ (f : Figure) (s : Sheet) (p : Promise f s) where
  pub answered : (a : Result ⊤ Refusal) → s.answer ≡ a → refusal f ≡ answer_no a
  answered a e = sym p.told ∙ ap answer_no e

  -- the drawing of an accepted figure
  pub laid-drawing : refusal f ≡ 0 → Laid (grid f) s.grid
  laid-drawing h =
      record {
        sound = p.sound h;
        columns = drawing-columns f s p h;
        rows = drawing-rows f s p h;
        drawn = drawing-drawn f s p h;
        back = drawing-stored f s p h;
      }

  pub told-figure : (mode : Mode) (r : Rule) (table list : List ℕ) (why : Refusal) → s.answer ≡ Err why
      → told (denied why 0) table list ≡ ruled mode f r table list
  unfolding told ruled refused
  told-figure mode r table list why e =
      let n : refusal f ≡ refusal_no why = answered (Err why) e in
      ap (λ m. refused m table list) (sym n)
      ∙ sym
      (ap (λ b. cond b (gridded mode (grid f) r table list) (refused (refusal f) table list))
      (ne_eqb (refusal f) 0 (λ z. omega (arith, refusal-some why))))

  pub ahead-figure : (why : Refusal) → s.answer ≡ Err why → ahead_told (Err why) ≡ ahead f
  unfolding ahead_told ahead
  ahead-figure why e =
      let n : refusal f ≡ refusal_no why = answered (Err why) e in
      let none : cond (eqb (refusal f) 0) (weighed_cuts (grid f)) 0 ≡ 0 =
      ap (λ b. cond b (weighed_cuts (grid f)) 0) (ne_eqb (refusal f) 0 (λ z. omega (arith, refusal-some why))) in
      λ i. record { number = sym n i; cuts = sym none i }

-- the same of what `draw` answers: a drawing
module _ (f : Figure) (d : Drawing) (xs ys cells : List ℕ) (p : Promise f (sheet (Ok d) xs ys cells)) where
  pub accepted : refusal f ≡ 0
  unfolding sheet
  accepted = sym p.told

  pub drawn-laid : Laid (grid f) (memory d.columns d.rows xs ys cells)
  unfolding sheet
  drawn-laid = laid-drawing f (sheet (Ok d) xs ys cells) p accepted

  pub drawn-cells : 256 ≡ length cells
  unfolding sheet
  drawn-cells = sym (drawing-lengths f (sheet (Ok d) xs ys cells) p).cells-length

-- or a refusal
module _ (f : Figure) (why : Refusal) (xs ys cells : List ℕ) (p : Promise f (sheet (Err why) xs ys cells)) where
  pub told-refused : (mode : Mode) (r : Rule) (table list : List ℕ) → told (denied why 0) table list ≡ ruled mode f r table list
  unfolding sheet
  told-refused mode r table list = told-figure f (sheet (Err why) xs ys cells) p mode r table list why refl

  pub ahead-refused : ahead_told (Err why) ≡ ahead f
  unfolding sheet
  ahead-refused = ahead-figure f (sheet (Err why) xs ys cells) p why refl

pub ahead-cuts : (f : Figure) (n : ℕ) → refusal f ≡ 0 → n ≡ weighed_cuts (grid f) → ahead_told (Ok n) ≡ ahead f
unfolding ahead_told ahead
ahead-cuts f n h e =
    let made : n ≡ cond (eqb (refusal f) 0) (weighed_cuts (grid f)) 0 =
    e ∙ sym (ap (λ b. cond b (weighed_cuts (grid f)) 0) (eq-eqb (refusal f) 0 h)) in
    λ i. record { number = sym h i; cuts = made i }

pub laid-shaded : (g : Grid) (m : Memory) → Laid g m → Shaded g m.cells m.columns m.rows
laid-shaded g m w =
    let s = w.sound in
    record {
      across = w.columns;
      upright = w.rows;
      columns-some = omega (arith, w.columns, s.columns-some);
      columns-most = omega (arith, w.columns, s.columns-most);
      rows-some = omega (arith, w.rows, s.rows-some);
      rows-most = omega (arith, w.rows, s.rows-most);
      cells-length = w.drawn.cells-length;
      cell-at = w.drawn.cell-at;
    }

pub ahead_apart : (a b : Result ℕ Refusal) → ahead_told a ≡ ahead_told b → a ≡ b
unfolding ahead_told
ahead_apart (Ok m) (Ok n) e = ap (λ x. Ok x.cuts) e
ahead_apart (Ok m) (Err why) e = absurd (omega (arith, refusal-some why, ap (λ x. x.number) e))
ahead_apart (Err why) (Ok n) e = absurd (omega (arith, refusal-some why, ap (λ x. x.number) e))
ahead_apart (Err why) (Err for) e = ap Err (refusal-one why for (ap (λ x. x.number) e))

pub told-grid : (mode : Mode) (f : Figure) (r : Rule) (table list : List ℕ) → refusal f ≡ 0 → gridded mode (grid f) r table list ≡ ruled mode f r table list
unfolding ruled
told-grid mode f r table list h =
    sym (ap (λ b. cond b (gridded mode (grid f) r table list) (refused (refusal f) table list)) (eq-eqb (refusal f) 0 h))

-- the rule that was made of two numbers
module _ (ask : Asked) where
  pub told-rule : (why : Refusal) → unknown (refusal_no why) ≡ rule_told ask.threshold ask.weight
      → told (denied why 0) ask.table ask.list ≡ outcome ask
  unfolding told refused rule_told
  told-rule why e =
      let z = go (in_range ask.threshold ask.weight) e in
      ap (λ n. refused n ask.table ask.list) z.0 ∙ sym (outcome-rule ask z.1)
    where
      go : (b : Bool) → unknown (refusal_no why) ≡ cond b (given (rule_of ask)) (unknown 1) → (refusal_no why ≡ 1) × (b ≡ false)
      go true q = absurd (omega (arith, refusal-some why, ap (λ (x : Told). x.number) q))
      go false q = (ap (λ (x : Told). x.number) q, refl)

  -- what a rule in range gives is the outcome
  ruled-outcome : in_range ask.threshold ask.weight ≡ true → ruled ask.mode ask.figure (rule_of ask) ask.table ask.list ≡ outcome ask
  unfolding outcome
  ruled-outcome e =
      sym
      (ap (λ b. cond b (ruled ask.mode ask.figure (rule_of ask) ask.table ask.list) (refused 1 ask.table ask.list)) e)

  pub rule-outcome : {r : Rule} → given r ≡ rule_told ask.threshold ask.weight
      → ruled ask.mode ask.figure r ask.table ask.list ≡ outcome ask
  rule-outcome e =
      let m = rule-made ask.threshold ask.weight e in
      ap (λ (r : Rule). ruled ask.mode ask.figure r ask.table ask.list) m.1 ∙ ruled-outcome m.0

pub rule-range : (t w : ℕ) {r : Rule} → given r ≡ rule_told t w → in_range r.threshold r.weight ≡ true
rule-range t w e =
    let m = rule-made t w e in
    ap (λ (s : Rule). in_range s.threshold s.weight) m.1 ∙ m.0

-- the row of the default preset
module _ {r : Rule} (e : given r ≡ preset_told default_preset) where
  pub preset_range : in_range r.threshold r.weight ≡ true
  unfolding preset_told in_range
  preset_range = ap₂ in_range (ap (λ (t : Told). t.threshold) e) (ap (λ (t : Told). t.weight) e)

  pub preset_outcome : (f : Figure) (table list : List ℕ)
      → ruled Straight f r table list
      ≡ outcome (by_default f.numbers f.lengths table list)
  unfolding preset_told in_range
  preset_outcome f table list =
      ap (λ (t : Told). ruled Straight f (record { threshold = t.threshold; weight = t.weight }) table list) e
      ∙ ruled-outcome (by_default f.numbers f.lengths table list) refl

pub preset_known : (why : Refusal) → unknown (refusal_no why) ≡ preset_told default_preset → ⊥
unfolding preset_told
preset_known why e = omega (arith, refusal-some why, ap (λ (t : Told). t.number) e)

-- No two answers tell the same

pub told-apart : (a b : Result Fractured Denial) (t u l m : List ℕ) → told a t l ≡ told b u m → a ≡ b
unfolding told
told-apart (Ok f) (Ok h) t u l m e = ap (λ x. fractured x.shots x.cost x.sliver x.cuts) e
told-apart (Ok f) (Err d) t u l m e = absurd (omega (arith, refusal-some d.why, ap (λ o. o.number) e))
told-apart (Err d) (Ok f) t u l m e = absurd (omega (arith, refusal-some d.why, ap (λ o. o.number) e))
told-apart (Err d) (Err k) t u l m e = ap₂ denied (refusal-one d.why k.why (ap (λ o. o.number) e)) (ap (λ o. o.shots) e)

told_buffers : (a : Result Fractured Denial) (t l : List ℕ) → ((told a t l).table ≡ t) × ((told a t l).list ≡ l)
unfolding told
told_buffers (Ok f) t l = (refl, refl)
told_buffers (Err d) t l = (refl, refl)

pub fracture_unique : (o : Outcome) (a b : Result Fractured Denial) (t u l m : List ℕ) → told a t l ≡ o → told b u m ≡ o → (a ≡ b) × (t ≡ u) × (l ≡ m)
fracture_unique o a b t u l m p q =
    let e = p ∙ sym q in (
      told-apart a b t u l m e,
      sym (told_buffers a t l).0 ∙ ap (λ o. o.table) e ∙ (told_buffers b u m).0,
      sym (told_buffers a t l).1 ∙ ap (λ o. o.list) e ∙ (told_buffers b u m).1,
    )
