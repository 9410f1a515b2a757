-- `table::runs::weigh_apart` meets its contract: the pieces before the i-th have the cut weighed. Assumes nothing.
use Rattle.table.specs.Run.{Wrote, weighed_apart}
use Rattle.table.proofs.runs.weigh_apart.Given as goal

abbrev pub invariant-loop-i : goal.invariant-loop-i
invariant-loop-i l = Wrote (weighed_apart l.initial.best l.side l.low l.high) 0 l.i l.initial.best l.best
