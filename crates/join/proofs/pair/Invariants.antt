-- `join::pair` meets its contract. The invariant: the first i entries have taken their partners. Assumes nothing.
use Rattle.join.proofs.Pairs.{Turned}
use Rattle.join.proofs.pair.Given as goal

abbrev pub invariant-loop-i : goal.invariant-loop-i
invariant-loop-i l = Turned l.initial.table l.n l.table l.pairs l.i
