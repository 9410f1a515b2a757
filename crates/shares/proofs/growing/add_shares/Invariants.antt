-- `shares::growing::add_shares` meets its contract: the sums before the l-th have their share. Assumes nothing.
use Rattle.table.specs.Run.{Wrote}
use Rattle.shares.specs.Growth.{wrap_added}
use Rattle.shares.proofs.growing.add_shares.Given as goal

abbrev pub invariant-loop-l : goal.invariant-loop-l
invariant-loop-l l = Wrote (wrap_added l.initial.sums l.short l.at l.from) l.at l.l l.initial.sums l.sums
