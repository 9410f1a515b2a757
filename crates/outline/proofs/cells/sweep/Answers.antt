-- `outline::cells::sweep` meets its contract. The invariant: the columns before column i are swept. Assumes nothing.
use borrow.Author.Rules.{rules}
use Rattle.outline.proofs.Sweeping.{swept-start, swept-marks, swept-end}
use Rattle.outline.proofs.cells.sweep.Goals as goal

pub loop-i-init : goal.loop-i-init
loop-i-init c = (search rules, search rules, search rules, swept-start _)

pub sweep_column-requires : goal.sweep_column-requires
sweep_column-requires c = record { marks = swept-marks _ _ _ c.requires.marks c.loop-i.invariant.2 c.loop-i.invariant.3; le_i = (c.loop-i.invariant.1, search rules) }

pub loop-i-preserved : goal.loop-i-preserved
loop-i-preserved c = (search rules, search rules, search rules, c.sweep_column.ensures _ c.loop-i.invariant.3)

pub returns : goal.returns
returns c = swept-end _ _ _ _ c.loop-i.invariant.0 c.loop-i-test.false c.loop-i.invariant.3
