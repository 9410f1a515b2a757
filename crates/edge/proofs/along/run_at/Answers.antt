-- `edge::along::run_at` meets its contract. The invariant: from where the first steady part ends, all end up alike. Assumes nothing.
use mathlib.Core.Path.{sym, ◌∙◌}
use Rattle.edge.specs.Steps.{told}
use Rattle.edge.proofs.Laws.{onward-none, onward-more, whole-stop, whole-end, landed_eq}
use Rattle.edge.proofs.along.run_at.Goals as goal

pub loop-to-init : goal.loop-to-init
loop-to-init c = onward-none _ _ _ _ _ _ c.steady-to.ensures

pub returns-then-ne : goal.returns-then-ne
unfolding told
returns-then-ne c =
    whole-stop _ _ _ _ _ _ _ c.steady-to.ensures c.landing_at-first.ensures.told c.loop-to.invariant _ _ c.landing_at.ensures.told
    (landed_eq _ _ _ c.landing_at.ensures.from_1 c.landing_at-first.ensures.from_1)
    (sym c.ne.ensures ∙ c.if-ne.true)

pub loop-to-preserved : goal.loop-to-preserved
unfolding told
loop-to-preserved c =
    onward-more _ _ _ _ _ _ _ _ _ c.loop-to.invariant c.landing_at.ensures.told
    (landed_eq _ _ _ c.landing_at.ensures.from_1 c.landing_at-first.ensures.from_1)
    (sym c.ne.ensures ∙ c.if-ne.false)
    c.steady-to-in-loop-to.ensures

pub returns : goal.returns
unfolding told
returns c = whole-end _ _ _ _ _ _ _ c.steady-to.ensures c.landing_at-first.ensures.told c.loop-to.invariant c.loop-to-test.false
