-- `tally::measuring::widths` meets its contract: the strips before the a-th have their width. Assumes nothing.
use Rattle.table.specs.Run.{Wrote}
use Rattle.tally.specs.Units.{span_of}
use Rattle.tally.proofs.measuring.widths.Given as goal

abbrev pub invariant-loop-a : goal.invariant-loop-a
invariant-loop-a l = Wrote (span_of l.xs l.w) 0 l.a l.initial.wide l.wide
