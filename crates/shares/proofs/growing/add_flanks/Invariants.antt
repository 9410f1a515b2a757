-- `shares::growing::add_flanks` meets its contract: the strips before the l-th have their flanks. Assumes nothing.
use Rattle.table.specs.Run.{Wrote}
use Rattle.shares.specs.Growth.{narrow_flanks}
use Rattle.shares.proofs.growing.add_flanks.Given as goal

abbrev pub invariant-loop-l : goal.invariant-loop-l
invariant-loop-l l = Wrote (narrow_flanks l.short l.wide l.threshold l.left l.right) l.at l.l l.initial.sums l.sums
