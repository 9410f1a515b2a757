-- `note` meets its contract: those read so far are read in a row, and their starts are stored. Assumes nothing.
use Rattle.index.proofs.Starts.{Noting}
use Rattle.index.proofs.noting.note.Given as goal

abbrev pub invariant-loop-start : goal.invariant-loop-start
invariant-loop-start l = Noting l.job l.initial.c.at l.initial.front l.start-index l.c.at l.front
