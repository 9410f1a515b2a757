-- `shares::growing::grow` meets its contract: the rows below j are grown. Assumes nothing.
use Rattle.shares.specs.Growth.{RowsGrown}
use Rattle.shares.proofs.growing.grow.Given as goal

abbrev pub invariant-loop-j : goal.invariant-loop-j
invariant-loop-j l = RowsGrown l.short l.wide l.threshold l.last l.j l.initial.sums l.sums
