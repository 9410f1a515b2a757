-- `widths::lanes::add` meets its contract: the numbers before the i-th are added. Assumes nothing.
use native.Mathlib.Omega.{arith}
use Rattle.table.proofs.Run.{wrote_none, wrote_end}
use Rattle.widths.proofs.Lane.{add-fits, add-more}
use Rattle.widths.proofs.lanes.add.Goals as goal

pub loop-i-init : goal.loop-i-init
loop-i-init c = (omega arith, wrote_none _ _ _)

pub overflow_add-to-in-loop-i : goal.overflow_add-to-in-loop-i
overflow_add-to-in-loop-i c = record { fits = add-fits c.args.to.now c.args.from.now c.loop-i.to _ c.args.n c.loop-i.i (omega arith) c.requires.by_index c.loop-i.invariant.1 }

pub loop-i-preserved : goal.loop-i-preserved
loop-i-preserved c = (omega arith, add-more _ _ c.loop-i.to _ c.args.n c.loop-i.i c.requires.n_in_bounds.0 (omega arith) c.loop-i.invariant.1)

pub returns : goal.returns
returns c = wrote_end _ _ _ _ _ _ c.loop-i.invariant.0 c.loop-i-test.false c.loop-i.invariant.1
