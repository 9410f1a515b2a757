-- `eights::cuts::weigh_line` meets its contract: the pieces before the e-th have the cut weighed. Assumes nothing.
use Rattle.eights.proofs.Lines.{laid_more, line_row}
use Rattle.eights.proofs.cuts.weigh_line.Goals as goal

pub loop-e-preserved : goal.loop-e-preserved
loop-e-preserved c = laid_more _ _ _ c.loop-e.e _ _ c.loop-e.store _ (line_row _ _ c.loop-e.e _ _ _ _ c.loop-e.store c.eight_at-best.result _ c.loop-e.invariant c.eight_at-best.ensures.by_index c.weigh.ensures) c.put.ensures c.loop-e.invariant
