-- `print_shots` forgets no failure: no line of a shot does. Assumes nothing.
use Rattle.terminal.specs.Output.{Remembers}
use Rattle.preparation.proofs.lines.print_shots.Given as goal

abbrev pub invariant-loop-shot : goal.invariant-loop-shot
invariant-loop-shot l = Remembers l.initial.next l.next
