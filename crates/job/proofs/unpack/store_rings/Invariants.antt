-- `store_rings` meets its contract: the rings stored and those still to be read give the whole, in both lists. Assumes nothing.
use lib.ListN.{length}
use Rattle.job.proofs.Unpacking.{Filling}
use Rattle.job.proofs.unpack.store_rings.Given as goal

abbrev pub invariant-loop-length : goal.invariant-loop-length
invariant-loop-length l =
    Filling l.part (length l.initial.lengths) l.initial.c.at l.initial.list l.initial.lengths l.total l.length-index l.c.at l.list l.lengths
