-- `eights::cuts::put` meets its contract: the lanes before the l-th are put. Assumes nothing.
use native.Mathlib.Omega.{arith}
use Rattle.eights.proofs.Cut.{put-more}
use Rattle.eights.proofs.cuts.put.Goals as goal

pub loop-l-preserved : goal.loop-l-preserved
loop-l-preserved c = put-more c.args.eight.now _ c.loop-l.store c.args.at c.loop-l.l c.requires (omega arith) c.loop-l.invariant
