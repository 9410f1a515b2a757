-- `eights::cuts::weigh_lines` meets its contract: the pieces before the e-th have both cuts weighed. Assumes nothing.
use Rattle.eights.proofs.Lines.{laid_more, lines-row}
use Rattle.eights.proofs.cuts.weigh_lines.Goals as goal

pub loop-e-preserved : goal.loop-e-preserved
loop-e-preserved c = laid_more _ _ _ c.loop-e.e _ _ c.loop-e.store _ (lines-row _ _ c.loop-e.e _ _ _ _ c.loop-e.store c.eight_at-best.result _ c.loop-e.invariant c.eight_at-best.ensures.by_index c.weigh.ensures _ _ _ c.weigh-in-loop-e.ensures) c.put.ensures c.loop-e.invariant
