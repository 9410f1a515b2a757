-- `shares::growing::add_flanks` meets its contract: the strips before the l-th have their flanks. Assumes nothing.
use Rattle.std.proofs.Common.{arith}
use Rattle.shares.proofs.Growth.{flank_more}
use Rattle.shares.proofs.growing.add_flanks.Goals as goal

pub loop-l-preserved : goal.loop-l-preserved
loop-l-preserved c = flank_more c.args.sums.now c.args.short.now c.args.wide.now c.loop-l.sums c.args.threshold c.args.at c.args.left c.args.right c.loop-l.l _ _ c.both.ensures c.counted.ensures (omega arith) c.loop-l.invariant
