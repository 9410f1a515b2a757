-- `put_rings` meets its contract: the rings put and those still to be put give what the whole gives. Assumes nothing.
use Rattle.job.proofs.Writing.{Putting}
use Rattle.job.proofs.write.put_rings.Given as goal

abbrev pub invariant-loop-length : goal.invariant-loop-length
invariant-loop-length l = Putting l.corners l.lengths l.initial.out l.first l.from l.length-index l.at l.out
