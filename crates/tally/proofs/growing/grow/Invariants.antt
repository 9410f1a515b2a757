-- `tally::growing::grow` meets its contract: the rows below j are grown. Assumes nothing.
use Rattle.tally.specs.Growth.{RowsGrown}
use Rattle.tally.proofs.growing.grow.Given as goal

abbrev pub invariant-loop-j : goal.invariant-loop-j
invariant-loop-j l = RowsGrown l.unit l.last l.j l.initial.sums l.sums
