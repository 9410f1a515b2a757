-- `wheels::lanes::lower` meets its contract: the pieces in the lanes before the l-th are lowered. Assumes nothing.
use Rattle.std.proofs.Common.{arith}
use Rattle.table.proofs.Run.{wrote_none, wrote_end}
use Rattle.wheels.proofs.Steps.{lowered-more}
use Rattle.wheels.proofs.lanes.lower.Goals as goal

pub loop-l-init : goal.loop-l-init
loop-l-init c = (omega arith, wrote_none _ _ _)

pub loop-l-preserved : goal.loop-l-preserved
loop-l-preserved c = (omega arith, lowered-more _ _ c.loop-l.side _ c.args.lanes c.loop-l.l _ c.requires.0 (omega arith) c.min.ensures c.loop-l.invariant.1)

pub returns : goal.returns
returns c = wrote_end _ _ _ _ _ _ c.loop-l.invariant.0 c.loop-l-test.false c.loop-l.invariant.1
