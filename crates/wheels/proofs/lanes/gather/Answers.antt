-- `wheels::lanes::gather` meets its contract: the lanes before the l-th have one more line weighed. Assumes nothing.
use Rattle.std.proofs.Common.{arith}
use Rattle.table.proofs.Run.{wrote_none, wrote_end}
use Rattle.wheels.proofs.Steps.{gathered-more}
use Rattle.wheels.proofs.lanes.gather.Goals as goal

pub loop-l-init : goal.loop-l-init
loop-l-init c = (omega arith, wrote_none _ _ _)

pub loop-l-preserved : goal.loop-l-preserved
loop-l-preserved c = (omega arith, gathered-more _ _ c.loop-l.best _ _ _ c.args.lanes c.loop-l.l _ _ c.requires.0 (omega arith) c.together-sum.ensures c.min.ensures c.loop-l.invariant.1)

pub returns : goal.returns
returns c = wrote_end _ _ _ _ _ _ c.loop-l.invariant.0 c.loop-l-test.false c.loop-l.invariant.1
