-- `eights::judging::judge` meets its contract: the pieces in the lanes below l are settled. Assumes nothing.
use Rattle.eights.proofs.Judge.{Lanes}
use Rattle.eights.proofs.judging.judge.Given as goal

abbrev pub invariant-loop-l : goal.invariant-loop-l
invariant-loop-l l = Lanes l.price l.cells l.count l.sliver l.best l.at l.l l.initial.store l.store
