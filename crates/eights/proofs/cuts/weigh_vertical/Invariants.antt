-- `eights::cuts::weigh_vertical` meets its contract: the cuts less than v columns from the first line are weighed. Assumes nothing.
use Prim.Native.Nat.{◌-◌}
use Rattle.eights.proofs.Lines.{Lines}
use Rattle.eights.proofs.cuts.weigh_vertical.Given as goal

abbrev pub invariant-loop-v : goal.invariant-loop-v
invariant-loop-v l = Lines l.pairs l.w l.g l.v l.low l.high l.initial.store l.store

abbrev pub decreases-loop-v : goal.decreases-loop-v
decreases-loop-v l = l.w - l.v
