-- `keep` meets its contract: those read so far are read in a row. Assumes nothing.
use Rattle.saving.proofs.Keeping.{Keeping}
use Rattle.saving.proofs.keep.Given as goal

abbrev pub invariant-loop-n : goal.invariant-loop-n
invariant-loop-n l = Keeping l.job l.initial.c.at l.n l.c.at
