-- `tally::measuring::measure_row` meets its contract: the cells of the row before the i-th are measured. Assumes nothing.
use mathlib.Core.Path.{◌∙◌}
use native.Mathlib.Omega.{arith}
use Rattle.tally.proofs.Shares.{units-more, units_row}
use Rattle.tally.proofs.measuring.measure_row.Goals as goal

pub loop-i-preserved : goal.loop-i-preserved
loop-i-preserved c = (c.measure_cell.ensures.long ∙ c.loop-i.invariant.0, λ g row w. units-more _ _ _ _ _ _ row _ _ _ (omega arith) c.measure_cell.ensures (c.loop-i.invariant.1 g row w))

pub returns : goal.returns
returns c = λ g row w. units_row _ _ _ _ _ _ row _ _ (omega arith) (omega arith) (c.loop-i.invariant.1 g row w)
