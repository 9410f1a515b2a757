-- A write that failed is remembered from each corner to the next.
use Rattle.terminal.specs.Output.{Remembers}
use Rattle.drawing.proofs.listing.print_ring.Given as goal

abbrev pub invariant-loop-x : goal.invariant-loop-x
invariant-loop-x l = Remembers l.fn.out l.next
