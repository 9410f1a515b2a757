-- `rings` meets its contract: the corners so far, and the rings still to be read from here, give what the whole gives. Assumes nothing.
use Rattle.job.proofs.Walking.{Counting}
use Rattle.job.proofs.read.rings.Given as goal

abbrev pub invariant-loop : goal.invariant-loop
invariant-loop l = Counting l.job l.count l.initial.c.at l.total l.counter l.c.at
