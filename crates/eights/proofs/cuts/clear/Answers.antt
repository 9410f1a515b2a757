-- `eights::cuts::clear` meets its contract: the pieces before the e-th have no cut weighed. Assumes nothing.
use Rattle.eights.proofs.Lines.{laid_more, unweighed-row}
use Rattle.eights.proofs.cuts.clear.Goals as goal

pub loop-e-preserved : goal.loop-e-preserved
loop-e-preserved c = laid_more _ _ _ c.loop-e.e _ _ c.loop-e.store _ (λ i h k. unweighed-row i _ h) c.put.ensures c.loop-e.invariant
