-- `shares::growing::add_shares` meets its contract: the sums before the l-th have their share. Assumes nothing.
use Rattle.std.proofs.Common.{arith}
use Rattle.shares.proofs.Growth.{add-more}
use Rattle.shares.proofs.growing.add_shares.Goals as goal

pub loop-l-preserved : goal.loop-l-preserved
loop-l-preserved c = add-more c.args.sums.now c.args.short.now c.loop-l.sums c.args.at c.args.from c.loop-l.l _ c.both.ensures (omega arith) c.loop-l.invariant
