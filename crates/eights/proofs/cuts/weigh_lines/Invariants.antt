-- `eights::cuts::weigh_lines` meets its contract: the pieces before the e-th have both cuts weighed. Assumes nothing.
use Prim.Native.Nat.{◌-◌, max}
use Rattle.eights.specs.Store.{lowered_twice, Laid}
use Rattle.eights.proofs.cuts.weigh_lines.Given as goal

abbrev pub invariant-loop-e : goal.invariant-loop-e
invariant-loop-e l = Laid (lowered_twice l.initial.store l.at l.low l.high l.next l.further) (l.at - max (max l.low l.high) (max l.next l.further)) l.e l.at l.initial.store l.store
