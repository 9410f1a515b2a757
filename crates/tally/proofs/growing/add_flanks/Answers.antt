-- `tally::growing::add_flanks` meets its contract: the strips before the l-th have their flanks. Assumes nothing.
use native.Mathlib.Omega.{arith}
use Rattle.tally.proofs.Growth.{flank_more}
use Rattle.tally.proofs.growing.add_flanks.Goals as goal

pub loop-l-preserved : goal.loop-l-preserved
loop-l-preserved c = flank_more c.args.sums.now c.args.unit.now c.loop-l.sums c.args.at c.args.left c.args.right c.loop-l.l (omega arith) c.loop-l.invariant
