-- `tally::growing::add_flanks` meets its contract: the strips before the l-th have their flanks. Assumes nothing.
use Rattle.table.specs.Run.{Wrote}
use Rattle.tally.specs.Growth.{flank_sum}
use Rattle.tally.proofs.growing.add_flanks.Given as goal

abbrev pub invariant-loop-l : goal.invariant-loop-l
invariant-loop-l l = Wrote (flank_sum l.unit l.left l.right) l.at l.l l.initial.sums l.sums
