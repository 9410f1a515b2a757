-- `eights::judging::slivers` meets its contract: the lanes below l have their sliver lengths. Assumes nothing.
use Rattle.table.specs.Run.{Wrote}
use Rattle.eights.proofs.Judge.{lane_sliver}
use Rattle.eights.proofs.judging.slivers.Given as goal

abbrev pub invariant-loop-l : goal.invariant-loop-l
invariant-loop-l l = Wrote (lane_sliver l.strips.sums.now l.strips.wide.now l.flanks l.height l.g l.bottom l.top) 0 l.l l.initial.length-items l.length-items
