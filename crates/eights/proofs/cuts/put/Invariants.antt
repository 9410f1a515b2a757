-- `eights::cuts::put` meets its contract: the lanes before the l-th are put. Assumes nothing.
use Rattle.table.specs.Run.{Wrote}
use Rattle.eights.specs.Store.{listed}
use Rattle.eights.proofs.cuts.put.Given as goal

abbrev pub invariant-loop-l : goal.invariant-loop-l
invariant-loop-l l = Wrote (listed l.eight) l.at l.l l.initial.store l.store
