-- `shares::measuring::measure_row` meets its contract: the cells of the row before the i-th are measured. Assumes nothing.
use Rattle.std.proofs.Common.{◌∙◌, arith}
use Rattle.shares.proofs.Measured.{shares_at, shares-more, shares-row, due_none, due_more, due_end}
use Rattle.shares.proofs.measuring.measure_row.Goals as goal

pub loop-i-init : goal.loop-i-init
loop-i-init c = (c.requires.short_len.0, (λ g row w. shares_at _ _ _ _ _ (omega arith) w, (due_none _, omega arith)))

pub loop-i-preserved : goal.loop-i-preserved
loop-i-preserved c = (
  c.measure_cell-due.ensures.put.long ∙ c.loop-i.invariant.0,
  (
    λ g row w. shares-more _ _ _ _ _ _ _ row _ _ _ (omega arith) c.measure_cell-due.ensures.put (c.loop-i.invariant.1.0 g row w),
    (due_more _ _ _ _ c.loop-i.invariant.1.1.0 c.measure_cell-due.ensures.value.0, omega (arith, c.loop-i.invariant.1.1.1, c.measure_cell-due.ensures.value.1)),
  ),
)

pub returns : goal.returns
returns c = record { shares_to = λ g row w. shares-row _ _ _ _ _ _ _ row _ _ (omega arith) (omega arith) (c.loop-i.invariant.1.0 g row w); value = (due_end _ _ _ _ (omega arith) (omega arith) c.loop-i.invariant.1.1.0, omega (arith, c.loop-i.invariant.1.1.1, c.requires.short_len.1.1)) }
