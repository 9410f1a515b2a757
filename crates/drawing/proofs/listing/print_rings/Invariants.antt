-- A write that failed is remembered from each ring to the next.
use Rattle.terminal.specs.Output.{Remembers}
use Rattle.drawing.proofs.listing.print_rings.Given as goal

abbrev pub invariant-loop-length : goal.invariant-loop-length
invariant-loop-length l = Remembers l.fn.out l.next
