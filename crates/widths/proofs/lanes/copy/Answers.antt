-- `widths::lanes::copy` meets its contract: the numbers before the i-th are copied. Assumes nothing.
use native.Mathlib.Omega.{arith}
use Rattle.table.proofs.Run.{wrote_none, wrote_end}
use Rattle.widths.proofs.Lane.{copy_more}
use Rattle.widths.proofs.lanes.copy.Goals as goal

pub loop-i-init : goal.loop-i-init
loop-i-init c = (omega arith, wrote_none _ _ _)

pub loop-i-preserved : goal.loop-i-preserved
loop-i-preserved c = (omega arith, copy_more _ _ c.loop-i.to _ c.args.n c.loop-i.i c.requires.0 (omega arith) c.loop-i.invariant.1)

pub returns : goal.returns
returns c = wrote_end _ _ _ _ _ _ c.loop-i.invariant.0 c.loop-i-test.false c.loop-i.invariant.1
