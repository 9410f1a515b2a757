-- `tally::measuring::measure` meets its contract: the rows below j are measured. Assumes nothing.
use native.Mathlib.Omega.{arith}
use Rattle.tally.proofs.Shares.{units-none, measurable, row_at, units-end}
use Rattle.tally.proofs.measuring.measure.Goals as goal

pub loop-j-init : goal.loop-j-init
loop-j-init c = units-none _ _ _ (omega arith) c.requires.unit_value

pub measure_row-requires : goal.measure_row-requires
measure_row-requires c = (c.loop-j.invariant.long, λ i h. measurable _ _ _ _ _ c.requires.laid i c.loop-j.j h (omega arith))

pub loop-j-preserved : goal.loop-j-preserved
loop-j-preserved c = c.measure_row.ensures _ (row_at _ _ _ _ _ c.requires.laid c.loop-j.j (omega arith)) c.loop-j.invariant

pub returns : goal.returns
returns c = units-end _ _ _ _ _ c.requires.laid _ _ (omega arith) c.loop-j.invariant
