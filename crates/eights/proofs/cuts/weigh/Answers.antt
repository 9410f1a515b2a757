-- `eights::cuts::weigh` meets its contract: the lanes before the l-th have the cut weighed. Assumes nothing.
use native.Mathlib.Omega.{arith}
use Rattle.eights.proofs.Cut.{weighed-more}
use Rattle.eights.proofs.cuts.weigh.Goals as goal

pub loop-l-preserved : goal.loop-l-preserved
loop-l-preserved c = weighed-more _ _ c.loop-l.best _ _ c.loop-l.l _ _ c.requires.0 (omega arith) c.both.ensures c.min.ensures c.loop-l.invariant
