-- A write that failed is remembered from each figure to the next.
use Rattle.terminal.specs.Output.{Remembers}
use Rattle.drawing.proofs.listing.print_figures.Given as goal

abbrev pub invariant-loop : goal.invariant-loop
invariant-loop l = Remembers l.fn.out l.next
