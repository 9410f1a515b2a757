-- `widths::lanes::judge_lanes` meets its contract: the pieces in the lanes below l are settled. Assumes nothing.
use mathlib.Core.Path.{refl, ◌∙◌, ap}
use native.Mathlib.Omega.{arith}
use lib.ListN.{get_or}
use Rattle.rule.specs.Charge.{sliver_of, charge_of}
use Rattle.widths.proofs.Lane.{ruled-none, ruled-more, ruled-end, ends-here, judged-shot, sliver-fits}
use Rattle.widths.proofs.lanes.judge_lanes.Goals as goal

pub loop-l-init : goal.loop-l-init
loop-l-init c = (omega arith, ruled-none _ _ _ _ _ _ _ _ _ _ _ _)

pub overflow_add-ends-in-loop-l-2 : goal.overflow_add-ends-in-loop-l-2
overflow_add-ends-in-loop-l-2 c = record { fits = omega (arith, ends-here c.args.sums.now c.loop-l.l c.args.level.low c.args.level.high _ _ refl refl, (c.requires.by_index c.loop-l.l (omega arith)).1) }

pub sliver_of_height-sliver-requires : goal.sliver_of_height-sliver-requires
sliver_of_height-sliver-requires c = record { tall_value = c.spares-tall.ensures; upright_value = c.requires.narrow.none c.loop-l.l (omega arith) }

pub charge-requires : goal.charge-requires
charge-requires c =
    let m = c.requires.by_index c.loop-l.l (omega arith) in
    let e = ends-here c.args.sums.now c.loop-l.l c.args.level.low c.args.level.high _ _ refl refl in
    (sliver-fits _ _ _ _ _ _ c.sliver_of_height-sliver.ensures m.0 (omega (arith, m.1, e)), c.requires.low_lt_high.1.1.1.1)

pub loop-l-preserved : goal.loop-l-preserved
loop-l-preserved c =
    let e = ends-here c.args.sums.now c.loop-l.l c.args.level.low c.args.level.high _ _ refl refl in (
      omega arith,
      ruled-more _ _ _ _ _ _ _ _ _ _ _ _ c.loop-l.l c.settled.result c.loop-l.side (omega (arith, c.requires.low_lt_high))
          (judged-shot _ _ _ _ _ _ (c.charge.ensures ∙ ap (charge_of c.args.rule) (c.sliver_of_height-sliver.ensures ∙ ap (sliver_of c.args.rule (get_or c.args.widths.now c.loop-l.l 0) c.args.level.height (get_or c.args.flanks.now c.loop-l.l 0)) e)) c.settled.ensures)
          c.loop-l.invariant.1,
    )

pub returns : goal.returns
returns c = ruled-end _ _ _ _ _ _ _ _ _ _ _ _ _ _ _ c.loop-l.invariant.0 c.loop-l-test.false c.loop-l.invariant.1
