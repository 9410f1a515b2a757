-- `eights::settling::add` meets its contract: the numbers of the lanes below l are added. Assumes nothing.
use Rattle.table.specs.Run.{Wrote}
use Rattle.shares.specs.Growth.{wrap_added}
use Rattle.eights.proofs.settling.add.Given as goal

abbrev pub invariant-loop-l : goal.invariant-loop-l
invariant-loop-l l = Wrote (wrap_added l.initial.to l.sums 0 l.at) 0 l.l l.initial.to l.to
