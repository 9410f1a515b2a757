-- `shares::measuring::measure` meets its contract: the rows below j are measured. Assumes nothing.
use Rattle.std.proofs.Common.{arith}
use Rattle.tally.proofs.Shares.{measurable, row_at, limits_at}
use Rattle.shares.proofs.Measured.{shares-none, shares-end, due_none, due_more, dues_end}
use Rattle.shares.proofs.measuring.measure.Goals as goal

pub loop-j-init : goal.loop-j-init
loop-j-init c = (shares-none _ _ _ _ (omega arith) c.requires.short_value.0, (due_none _, omega arith))

pub measure_row-due-requires : goal.measure_row-due-requires
measure_row-due-requires c =
    let h = limits_at _ _ _ _ _ c.requires.laid in
    record { short_len = (c.loop-j.invariant.0.long, (c.requires.short_value.1, h.0)); by_index = λ i q. measurable _ _ _ _ _ c.requires.laid i c.loop-j.j q (omega arith) }

pub overflow_add-due : goal.overflow_add-due
overflow_add-due c =
    let h = limits_at _ _ _ _ _ c.requires.laid in
    record { fits = omega (arith, c.loop-j.invariant.1.1, h.1, c.measure_row-due.ensures.value.1) }

pub loop-j-preserved : goal.loop-j-preserved
loop-j-preserved c = (
  c.measure_row-due.ensures.shares_to _ (row_at _ _ _ _ _ c.requires.laid c.loop-j.j (omega arith)) c.loop-j.invariant.0,
  (due_more _ _ _ _ c.loop-j.invariant.1.0 c.measure_row-due.ensures.value.0, omega (arith, c.loop-j.invariant.1.1, c.measure_row-due.ensures.value.1)),
)

pub returns : goal.returns
returns c = record { shares = shares-end _ _ _ _ _ c.requires.laid _ _ _ (omega arith) c.loop-j.invariant.0; value = dues_end _ _ _ _ _ c.requires.laid _ _ _ _ (omega arith) (omega arith) c.loop-j.invariant.1.0 }
