-- `verdict::pinwheel::judge` meets its contract: each exit by one law of Judged. Assumes nothing.
use mathlib.Core.Path.{◌≡◌, ◌∙◌}
use native.Mathlib.Omega.{arith}
use Rattle.recurrence.specs.Scheme.{mixed}
use Rattle.outline.specs.Grid.{Grid}
use Rattle.rule.specs.declared.Rule.{Rule}
use Rattle.piece.specs.declared.Mode.TheVariants.{Pinwheel}
use Rattle.piece.specs.Piece.{kind}
use Rattle.piece.specs.Meant.{meant}
use Rattle.verdict.specs.Memory.{Costed}
use Rattle.verdict.proofs.Search.{inside-said}
use Rattle.verdict.proofs.Judged.{entry-within, is-mixed, verdict_outside, verdict_shot, verdict_mixed, turnable, made-wheel}
use Rattle.verdict.proofs.pinwheel.judge.Goals as goal

pub offset_bounds-costs-entry : goal.offset_bounds-costs-entry
offset_bounds-costs-entry c = omega (arith, entry-within _ _ _ _ _ _ c.requires.costed c.args.p.piece c.args.p.entry c.requires.known)

pub bounds-costs-entry : goal.bounds-costs-entry
bounds-costs-entry c = entry-within _ _ _ _ _ _ c.requires.costed c.args.p.piece c.args.p.entry c.requires.known

pub returns-then-cost-eq0 : goal.returns-then-cost-eq0
returns-then-cost-eq0 c g r f = verdict_outside Pinwheel g r _ _ _ f c.args.p.piece c.args.p.entry c.requires.known c.if-cost-eq0.true

pub returns-then-all_inside : goal.returns-then-all_inside
returns-then-all_inside c g r f =
    verdict_shot Pinwheel g r _ _ _ f c.args.p.piece c.args.p.entry c.requires.known
    (inside-said _ c.args.p.piece c.if-all_inside.true c.all_inside.ensures)

pub first_cut-requires : goal.first_cut-requires
first_cut-requires c = record { mode = Pinwheel; cells = c.args.cells.now; judgeable = c.requires }

pub returns-in-Some : goal.returns-in-Some
returns-in-Some c g r f =
    let sort : (g : Grid) → (r : Rule) → Costed Pinwheel g r c.args.costs.now c.args.cells.now c.args.plan → kind g (meant c.args.p.piece) ≡ mixed = λ g r f. (is-mixed Pinwheel g r _ _ _ f c.args.p.piece c.args.p.entry c.requires.known c.if-cost-eq0.false
    (inside-said _ c.args.p.piece c.if-all_inside.false c.all_inside.ensures)) in
    c.in-Some.ensures Pinwheel g r c.args.cells.now f (sort g r f) ∙ verdict_mixed Pinwheel g r _ _ _ f c.args.p.piece c.args.p.entry c.requires.known (sort g r f)

pub first_wheel-requires : goal.first_wheel-requires
first_wheel-requires c =
    let sort : (g : Grid) → (r : Rule) → Costed Pinwheel g r c.args.costs.now c.args.cells.now c.args.plan → kind g (meant c.args.p.piece) ≡ mixed = λ g r f. (is-mixed Pinwheel g r _ _ _ f c.args.p.piece c.args.p.entry c.requires.known c.if-cost-eq0.false
    (inside-said _ c.args.p.piece c.if-all_inside.false c.all_inside.ensures)) in
    let mixed = sort c.requires.grid c.requires.rule c.requires.costed in
    turnable _ _ _ _ _ _ c.requires.costed c.args.p.piece c.args.p.entry c.requires.known (c.in-None.ensures Pinwheel _ _ _ c.requires.costed mixed) mixed

pub returns-in-None : goal.returns-in-None
returns-in-None c g r f =
    let sort : (g : Grid) → (r : Rule) → Costed Pinwheel g r c.args.costs.now c.args.cells.now c.args.plan → kind g (meant c.args.p.piece) ≡ mixed = λ g r f. (is-mixed Pinwheel g r _ _ _ f c.args.p.piece c.args.p.entry c.requires.known c.if-cost-eq0.false
    (inside-said _ c.args.p.piece c.if-all_inside.false c.all_inside.ensures)) in
    made-wheel Pinwheel g r _ _ _ f c.args.p.piece c.args.p.entry c.requires.known (c.in-None.ensures Pinwheel g r _ f (sort g r f)) (sort g r f) _ c.first_wheel.ensures
    ∙ verdict_mixed Pinwheel g r _ _ _ f c.args.p.piece c.args.p.entry c.requires.known (sort g r f)
