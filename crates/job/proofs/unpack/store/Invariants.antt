-- `store` meets its contract: what is stored and what is still to be read give the whole. Assumes nothing.
use lib.ListN.{length}
use Rattle.job.proofs.Unpacking.{Storing}
use Rattle.job.proofs.unpack.store.Given as goal

abbrev pub invariant-loop-place : goal.invariant-loop-place
invariant-loop-place l = Storing l.part (length l.initial.list) l.initial.c.at l.initial.list l.place-index l.c.at l.list
