-- `shallow::rows::fill` meets its contract: the strips that end at the x line `last` or below it are filled. Assumes nothing.
use mathlib.Core.Path.{refl, sym, ◌∙◌, subst}
use native.Mathlib.Omega.{arith}
use Rattle.outline.specs.Grid.{stored}
use Rattle.table.specs.Run.{Wrote}
use Rattle.shallow.proofs.Filling.{pairs-few, asks_empty, asks_span, asks_within, asks_small, row-empty, row_next, turn-first, turn-first-small, turn-start, turn_more, turn_end, turn-room, turn-settled, turn-at}
use Rattle.shallow.proofs.rows.fill.Goals as goal

pub overflow_mul-start : goal.overflow_mul-start
overflow_mul-start g c =
    omega (arith, turn-first-small _ _ _ _ _ _ _ c.requires.ready _ _ _ c.requires.a_lt_columns.0 c.requires.a_lt_columns.1 (c.PAIRS.ensures ∙ g.met.R.Rows.pairs_are))

pub empty-rows-requires : goal.empty-rows-requires
empty-rows-requires g c = asks_empty _ _ _ _ _ _ _ c.requires.ready

pub loop-last-init : goal.loop-last-init
loop-last-init g c = (
  turn-start _ _ _ _ _ _ _ c.requires.ready _ _ c.requires.a_lt_columns.0
      (turn-first _ _ _ _ _ _ _ c.requires.ready _ _ _ _ c.requires.a_lt_columns.1 (c.PAIRS.ensures ∙ g.met.R.Rows.pairs_are) refl)
      c.requires.reached,
  λ j h. row-empty _ _ _ _ _ _ _ c.requires.ready _ j _ h (c.empty-rows.ensures j h),
)

pub span-width-requires : goal.span-width-requires
span-width-requires g c = asks_span _ _ _ _ _ _ _ c.requires.ready _ _ (omega (arith, c.loop-last.invariant.0.above)) (omega (arith, c.loop-last-test.true))

pub span-step-requires : goal.span-step-requires
span-step-requires g c = asks_span _ _ _ _ _ _ _ c.requires.ready _ _ (omega arith) (omega (arith, c.loop-last-test.true))

pub grown-rows-requires-clause-within : goal.grown-rows-requires-clause-within
grown-rows-requires-clause-within g c = asks_within _ _ _ _ _ _ _ c.requires.ready _ _ c.loop-last.invariant.0.above (omega (arith, c.loop-last-test.true))

pub grown-rows-requires-clause-small : goal.grown-rows-requires-clause-small
grown-rows-requires-clause-small g c = (
  asks_small _ _ _ _ _ _ _ c.requires.ready _ _ (g.R.Rows.row c.loop-last.rows) c.loop-last.invariant.0.above (omega (arith, c.loop-last-test.true)) c.loop-last.invariant.1,
  c.span-step.ensures.1,
)

pub settle-requires : goal.settle-requires
settle-requires g c =
    let m = g.R.Rows in
    let turn =
    turn-at _ m.ROWS _ _ _ _ _ c.requires.ready c.args.a.0 c.args.first c.loop-last.last c.loop-last.at c.PAIRS.result c.PAIRS-in-loop-last.result c.span-width.result c.span-step.result c.loop-last.table
    c.requires.a_lt_columns.1
    (c.PAIRS.ensures ∙ g.met.R.Rows.pairs_are)
    (c.PAIRS-in-loop-last.ensures ∙ g.met.R.Rows.pairs_are)
    c.loop-last.invariant.0
    c.loop-last-test.true
    c.span-width.ensures.0
    c.span-step.ensures.0 in
    let settled = turn-settled _ _ _ _ _ _ _ _ _ _ _ turn (m.row c.loop-last.rows) (m.row c.grown-rows.result) c.loop-last.invariant.1 c.grown-rows.ensures in
    (stored c.args.columns m.ROWS c.args.xs.now c.args.ys.now c.args.cells.now, settled)

pub overflow_add-at : goal.overflow_add-at
overflow_add-at g c = omega (arith, c.PAIRS-at.ensures, g.met.R.Rows.pairs_are, turn-room _ _ _ _ _ _ _ c.requires.ready _ _ _ _ c.loop-last.invariant.0 (omega (arith, c.loop-last-test.true)), pairs-few _ _ _ _ _ _ _ c.requires.ready)

pub loop-last-preserved : goal.loop-last-preserved
loop-last-preserved g c =
    let m = g.R.Rows in
    let turn =
    turn-at _ m.ROWS _ _ _ _ _ c.requires.ready c.args.a.0 c.args.first c.loop-last.last c.loop-last.at c.PAIRS.result c.PAIRS-in-loop-last.result c.span-width.result c.span-step.result c.loop-last.table
    c.requires.a_lt_columns.1
    (c.PAIRS.ensures ∙ g.met.R.Rows.pairs_are)
    (c.PAIRS-in-loop-last.ensures ∙ g.met.R.Rows.pairs_are)
    c.loop-last.invariant.0
    c.loop-last-test.true
    c.span-width.ensures.0
    c.span-step.ensures.0 in
    let settled = turn-settled _ _ _ _ _ _ _ _ _ _ _ turn (m.row c.loop-last.rows) (m.row c.grown-rows.result) c.loop-last.invariant.1 c.grown-rows.ensures in
    let costed = c.settle.ensures _ settled in (
      turn_more _ _ _ _ _ _ _ c.requires.ready _ _ _ _ c.loop-last.invariant.0 _ costed.costs c.PAIRS-at.result (omega (arith, c.loop-last-test.true))
          (c.PAIRS-at.ensures ∙ g.met.R.Rows.pairs_are)
          (subst (λ n. Wrote costed.costs c.loop-last.at n c.loop-last.table c.settle.new.table) (sym c.PAIRS-at.ensures) costed.wrote)
          costed.right,
      λ j h. row_next _ _ _ _ _ _ _ (settled.sums j h),
    )

pub returns-clause-reached_2 : goal.returns-clause-reached_2
returns-clause-reached_2 g c = (turn_end _ _ _ _ _ _ _ c.requires.ready _ _ _ _ c.loop-last.invariant.0 (omega (arith, c.loop-last-test.false))).0

pub returns-clause-beyond : goal.returns-clause-beyond
returns-clause-beyond g c = (turn_end _ _ _ _ _ _ _ c.requires.ready _ _ _ _ c.loop-last.invariant.0 (omega (arith, c.loop-last-test.false))).1
