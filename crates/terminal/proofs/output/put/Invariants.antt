-- A write that failed is remembered from each byte to the next.
use Rattle.terminal.specs.Output.{Remembers}
use Rattle.terminal.proofs.output.put.Given as goal

abbrev pub invariant-loop-byte : goal.invariant-loop-byte
invariant-loop-byte l = Remembers l.fn.out l.out
