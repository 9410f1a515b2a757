-- `eights::cuts::weigh_line` meets its contract: the pieces before the e-th have the cut weighed. Assumes nothing.
use Prim.Native.Nat.{◌-◌, max}
use Rattle.eights.specs.Store.{lowered, Laid}
use Rattle.eights.proofs.cuts.weigh_line.Given as goal

abbrev pub invariant-loop-e : goal.invariant-loop-e
invariant-loop-e l = Laid (lowered l.initial.store l.at l.low l.high) (l.at - max l.low l.high) l.e l.at l.initial.store l.store
