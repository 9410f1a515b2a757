-- `wheels::keep` meets its contract: the first i numbers are kept. Assumes nothing.
use Rattle.std.proofs.Common.{arith}
use Rattle.table.proofs.Run.{wrote_none, wrote_end}
use Rattle.wheels.proofs.Steps.{kept_next}
use Rattle.wheels.proofs.keep.Goals as goal

pub loop-i-init : goal.loop-i-init
loop-i-init c = (omega arith, wrote_none _ _ _)

pub loop-i-preserved : goal.loop-i-preserved
loop-i-preserved c = (omega arith, kept_next _ _ c.loop-i.store _ c.args.n c.loop-i.i c.requires.0 (omega arith) c.loop-i.invariant.1)

pub returns : goal.returns
returns c = wrote_end _ _ _ _ _ _ c.loop-i.invariant.0 c.loop-i-test.false c.loop-i.invariant.1
