-- `figure::rings::any` meets its contract. The invariant: what is asked is told by the rings from this one on. Assumes nothing.
use Rattle.figure.proofs.Walking.{Left}
use Rattle.figure.proofs.rings.any.Given as goal

abbrev pub invariant-loop-length : goal.invariant-loop-length
invariant-loop-length m l = Left m.T.RingTest.test l.corners l.lengths l.from l.length-index
