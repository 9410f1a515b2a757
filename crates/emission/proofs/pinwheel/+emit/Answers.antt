-- `emission::pinwheel::emit` meets its contract. The measure is the number of cells of the piece. Assumes nothing.
use mathlib.Core.Path.{refl, sym, ◌∙◌, ap}
use native.Mathlib.Omega.{arith}
use lib.ListN.{length}
use Rattle.outline.specs.Grid.{Grid}
use Rattle.rule.specs.declared.Rule.{Rule}
use Rattle.piece.specs.declared.Mode.TheVariants.{Pinwheel}
use Rattle.piece.specs.Meant.{meant}
use Rattle.verdict.specs.Memory.{Costed}
use Rattle.emission.proofs.Emitted.{Halves, halves, Fifths, fifths, count_halves, count_fifths, told-outside, told-shot, less_cells, emit_one, emit_part, written_none, written_one, written-join, written_fifths, written_as}
use Rattle.emission.proofs.pinwheel.+emit.Goals as goal

pub judge-verdict-requires : goal.judge-verdict-requires
judge-verdict-requires t c = record { grid = c.requires.grid; rule = c.requires.rule; costed = c.requires.walk.costed; known = c.requires.known }

pub write_shot-requires : goal.write_shot-requires
write_shot-requires t c =
    let e = told-shot Pinwheel c.requires.grid c.requires.rule _ (sym c.in-Shot.is ∙ c.judge-verdict.ensures c.requires.grid c.requires.rule c.requires.walk.costed) in
    record { in_lists = emit_one _ _ _ _ _ _ _ _ c.requires.walk c.args.p.piece c.requires.known.valid; at_in_bounds = omega (arith, c.requires.fits, ap length e) }

pub emit-next-requires : goal.emit-next-requires
emit-next-requires t c =
    let cut : (g : Grid) → (r : Rule) → Costed Pinwheel g r c.args.costs.now c.args.cells.now c.args.plan → Halves Pinwheel g r c.args.plan (meant c.args.p.piece) c.in-Cut.low c.in-Cut.high = λ g r f. (halves Pinwheel g r _ _ _ f _ c.requires.known.valid _ _
    (sym c.in-Cut.is ∙ c.judge-verdict.ensures g r f)) in
    let z = cut c.requires.grid c.requires.rule c.requires.walk.costed in (
      less_cells _ _ _ z.low c.decreases,
      emit_part Pinwheel _ _ _ _ _ _ _ _ c.requires _ z.low refl (omega (arith, c.requires.fits, count_halves Pinwheel _ _ _ _ _ _ z)),
    )

pub emit-requires : goal.emit-requires
emit-requires t c =
    let cut : (g : Grid) → (r : Rule) → Costed Pinwheel g r c.args.costs.now c.args.cells.now c.args.plan → Halves Pinwheel g r c.args.plan (meant c.args.p.piece) c.in-Cut.low c.in-Cut.high = λ g r f. (halves Pinwheel g r _ _ _ f _ c.requires.known.valid _ _
    (sym c.in-Cut.is ∙ c.judge-verdict.ensures g r f)) in
    let z = cut c.requires.grid c.requires.rule c.requires.walk.costed in (
      less_cells _ _ _ z.high c.decreases,
      emit_part Pinwheel _ _ _ _ _ _ _ _ c.requires _ z.high c.emit-next.auto.list
          (omega (arith, c.requires.fits, (c.emit-next.ensures c.requires.grid c.requires.rule c.requires.walk).behind, count_halves Pinwheel _ _ _ _ _ _ z)),
    )

pub emit-one-requires : goal.emit-one-requires
emit-one-requires t c =
    let spin : (g : Grid) → (r : Rule) → Costed Pinwheel g r c.args.costs.now c.args.cells.now c.args.plan → Fifths Pinwheel g r c.args.plan (meant c.args.p.piece) c.in-Wheel.wheel = λ g r f. (fifths Pinwheel g r _ _ _ f _ c.requires.known.valid _
    (sym c.in-Wheel.is ∙ c.judge-verdict.ensures g r f)) in
    let z = spin c.requires.grid c.requires.rule c.requires.walk.costed in (
      less_cells _ _ _ z.first c.decreases,
      emit_part Pinwheel _ _ _ _ _ _ _ _ c.requires _ z.first refl (omega (arith, c.requires.fits, count_fifths Pinwheel _ _ _ _ _ z)),
    )

pub emit-two-requires : goal.emit-two-requires
emit-two-requires t c =
    let spin : (g : Grid) → (r : Rule) → Costed Pinwheel g r c.args.costs.now c.args.cells.now c.args.plan → Fifths Pinwheel g r c.args.plan (meant c.args.p.piece) c.in-Wheel.wheel = λ g r f. (fifths Pinwheel g r _ _ _ f _ c.requires.known.valid _
    (sym c.in-Wheel.is ∙ c.judge-verdict.ensures g r f)) in
    let z = spin c.requires.grid c.requires.rule c.requires.walk.costed in (
      less_cells _ _ _ z.second c.decreases,
      emit_part Pinwheel _ _ _ _ _ _ _ _ c.requires _ z.second c.emit-one.auto.list (omega (arith, c.requires.fits, (c.emit-one.ensures c.requires.grid c.requires.rule c.requires.walk).behind, count_fifths Pinwheel _ _ _ _ _ z)),
    )

pub emit-three-requires : goal.emit-three-requires
emit-three-requires t c =
    let spin : (g : Grid) → (r : Rule) → Costed Pinwheel g r c.args.costs.now c.args.cells.now c.args.plan → Fifths Pinwheel g r c.args.plan (meant c.args.p.piece) c.in-Wheel.wheel = λ g r f. (fifths Pinwheel g r _ _ _ f _ c.requires.known.valid _
    (sym c.in-Wheel.is ∙ c.judge-verdict.ensures g r f)) in
    let z = spin c.requires.grid c.requires.rule c.requires.walk.costed in (
      less_cells _ _ _ z.third c.decreases,
      emit_part Pinwheel _ _ _ _ _ _ _ _ c.requires _ z.third (c.emit-two.auto.list ∙ c.emit-one.auto.list) (omega (arith, c.requires.fits, (c.emit-one.ensures c.requires.grid c.requires.rule c.requires.walk).behind, (c.emit-two.ensures c.requires.grid c.requires.rule c.requires.walk).behind, count_fifths Pinwheel _ _ _ _ _ z)),
    )

pub emit-four-requires : goal.emit-four-requires
emit-four-requires t c =
    let spin : (g : Grid) → (r : Rule) → Costed Pinwheel g r c.args.costs.now c.args.cells.now c.args.plan → Fifths Pinwheel g r c.args.plan (meant c.args.p.piece) c.in-Wheel.wheel = λ g r f. (fifths Pinwheel g r _ _ _ f _ c.requires.known.valid _
    (sym c.in-Wheel.is ∙ c.judge-verdict.ensures g r f)) in
    let z = spin c.requires.grid c.requires.rule c.requires.walk.costed in (
      less_cells _ _ _ z.fourth c.decreases,
      emit_part Pinwheel _ _ _ _ _ _ _ _ c.requires _ z.fourth (c.emit-three.auto.list ∙ c.emit-two.auto.list ∙ c.emit-one.auto.list) (omega (arith, c.requires.fits, (c.emit-one.ensures c.requires.grid c.requires.rule c.requires.walk).behind, (c.emit-two.ensures c.requires.grid c.requires.rule c.requires.walk).behind, (c.emit-three.ensures c.requires.grid c.requires.rule c.requires.walk).behind, count_fifths Pinwheel _ _ _ _ _ z)),
    )

pub emit-requires-in-Wheel : goal.emit-requires-in-Wheel
emit-requires-in-Wheel t c =
    let spin : (g : Grid) → (r : Rule) → Costed Pinwheel g r c.args.costs.now c.args.cells.now c.args.plan → Fifths Pinwheel g r c.args.plan (meant c.args.p.piece) c.in-Wheel.wheel = λ g r f. (fifths Pinwheel g r _ _ _ f _ c.requires.known.valid _
    (sym c.in-Wheel.is ∙ c.judge-verdict.ensures g r f)) in
    let z = spin c.requires.grid c.requires.rule c.requires.walk.costed in (
      less_cells _ _ _ z.inner c.decreases,
      emit_part Pinwheel _ _ _ _ _ _ _ _ c.requires _ z.inner (c.emit-four.auto.list ∙ c.emit-three.auto.list ∙ c.emit-two.auto.list ∙ c.emit-one.auto.list) (omega (arith, c.requires.fits, (c.emit-one.ensures c.requires.grid c.requires.rule c.requires.walk).behind, (c.emit-two.ensures c.requires.grid c.requires.rule c.requires.walk).behind, (c.emit-three.ensures c.requires.grid c.requires.rule c.requires.walk).behind, (c.emit-four.ensures c.requires.grid c.requires.rule c.requires.walk).behind, count_fifths Pinwheel _ _ _ _ _ z)),
    )

pub returns-in-Outside : goal.returns-in-Outside
returns-in-Outside t c g r w = written_as g _ _ _ _ (told-outside Pinwheel g r _ (sym c.in-Outside.is ∙ c.judge-verdict.ensures g r w.costed)) (written_none g _ _)

pub returns-in-Shot : goal.returns-in-Shot
returns-in-Shot t c g r w =
    written_as g _ _ _ _ (told-shot Pinwheel g r _ (sym c.in-Shot.is ∙ c.judge-verdict.ensures g r w.costed))
    (written_one g Pinwheel r _ _ _ _ _ w _ c.requires.known.valid _ _ _ c.write_shot.ensures)

pub returns-in-Cut : goal.returns-in-Cut
returns-in-Cut t c g r w =
    let cut : (g : Grid) → (r : Rule) → Costed Pinwheel g r c.args.costs.now c.args.cells.now c.args.plan → Halves Pinwheel g r c.args.plan (meant c.args.p.piece) c.in-Cut.low c.in-Cut.high = λ g r f. (halves Pinwheel g r _ _ _ f _ c.requires.known.valid _ _
    (sym c.in-Cut.is ∙ c.judge-verdict.ensures g r f)) in
    let z = cut g r w.costed in
    written_as g _ _ _ _ z.both (written-join g _ _ _ _ _ _ _ _ (c.emit-next.ensures g r w) (c.emit.ensures g r w))

pub returns-in-Wheel : goal.returns-in-Wheel
returns-in-Wheel t c g r w =
    let spin : (g : Grid) → (r : Rule) → Costed Pinwheel g r c.args.costs.now c.args.cells.now c.args.plan → Fifths Pinwheel g r c.args.plan (meant c.args.p.piece) c.in-Wheel.wheel = λ g r f. (fifths Pinwheel g r _ _ _ f _ c.requires.known.valid _
    (sym c.in-Wheel.is ∙ c.judge-verdict.ensures g r f)) in
    let z = spin g r w.costed in
    written_as g _ _ _ _ z.all
    (written_fifths g (c.emit-one.ensures g r w) (c.emit-two.ensures g r w) (c.emit-three.ensures g r w)
    (c.emit-four.ensures g r w)
    (c.emit-in-Wheel.ensures g r w))
