-- `tally::growing::add_shares` meets its contract: the sums before the l-th have their share. Assumes nothing.
use native.Mathlib.Omega.{arith}
use Rattle.tally.proofs.Growth.{add-more}
use Rattle.tally.proofs.growing.add_shares.Goals as goal

pub loop-l-preserved : goal.loop-l-preserved
loop-l-preserved c = add-more c.args.sums.now c.args.unit.now c.loop-l.sums c.args.at c.args.from c.loop-l.l c.loop-l.invariant (omega arith)
