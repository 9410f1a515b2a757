-- `eights::cuts::clear` meets its contract: the pieces before the e-th have no cut weighed. Assumes nothing.
use Prim.Native.Nat.{◌*◌}
use Rattle.eights.specs.Store.{unweighed, Laid}
use Rattle.eights.proofs.cuts.clear.Given as goal

abbrev pub invariant-loop-e : goal.invariant-loop-e
invariant-loop-e l = Laid unweighed (16 * l.pairs) l.e l.at l.initial.store l.store
