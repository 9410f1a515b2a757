-- `tally::growing::add_shares` meets its contract: the sums before the l-th have their share. Assumes nothing.
use Rattle.table.specs.Run.{Wrote}
use Rattle.tally.specs.Growth.{added}
use Rattle.tally.proofs.growing.add_shares.Given as goal

abbrev pub invariant-loop-l : goal.invariant-loop-l
invariant-loop-l l = Wrote (added l.initial.sums l.unit l.at l.from) l.at l.l l.initial.sums l.sums
