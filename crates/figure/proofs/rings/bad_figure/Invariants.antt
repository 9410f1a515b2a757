-- `figure::rings::bad_figure` meets its contract. The invariant: the lengths so far are good, and this is their sum. Assumes nothing.
use Rattle.figure.proofs.Walking.{Added}
use Rattle.figure.proofs.rings.bad_figure.Given as goal

abbrev pub invariant-loop-length : goal.invariant-loop-length
invariant-loop-length l = Added l.lengths l.total l.length-index
