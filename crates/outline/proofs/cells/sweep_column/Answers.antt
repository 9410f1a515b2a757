-- `outline::cells::sweep_column` meets its contract. The invariant: the cells passed have taken in those left of them. Assumes nothing.
use mathlib.Core.Path.{refl}
use native.Mathlib.Omega.{arith}
use borrow.Author.Rules.{rules}
use Rattle.outline.proofs.Sweeping.{sweeping_start, sweeping_bits, sweeping_more, sweeping_end}
use Rattle.outline.proofs.cells.sweep_column.Goals as goal

pub loop-j-init : goal.loop-j-init
loop-j-init c = sweeping_start _ _

pub overflow_add-cells : goal.overflow_add-cells
overflow_add-cells c = omega (arith, sweeping_bits _ _ _ _ c.loop-j.invariant c.requires.marks (search rules) (search rules))

pub loop-j-preserved : goal.loop-j-preserved
loop-j-preserved c = sweeping_more _ _ _ _ c.loop-j.invariant (search rules) (search rules) (search rules)

pub returns : goal.returns
returns c = sweeping_end _ _ _ _ c.loop-j.invariant _ refl c.requires.le_i.0 c.loop-j-test.false
