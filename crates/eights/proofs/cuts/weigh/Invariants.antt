-- `eights::cuts::weigh` meets its contract: the lanes before the l-th have the cut weighed. Assumes nothing.
use Rattle.table.specs.Run.{Wrote}
use Rattle.eights.specs.Store.{weighed}
use Rattle.eights.proofs.cuts.weigh.Given as goal

abbrev pub invariant-loop-l : goal.invariant-loop-l
invariant-loop-l l = Wrote (weighed l.initial.best l.store l.low l.high) 0 l.l l.initial.best l.best
