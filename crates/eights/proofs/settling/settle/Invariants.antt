-- `eights::settling::settle` meets its contract: the strips in the lanes below g are settled. Assumes nothing.
use Prim.Native.Nat.{◌-◌}
use Rattle.eights.specs.Price.{sheet_of}
use Rattle.eights.proofs.Pricing.{Eights}
use Rattle.eights.proofs.settling.settle.Given as goal

abbrev pub invariant-loop-g : goal.invariant-loop-g
invariant-loop-g l = Eights (sheet_of l.strips) l.initial.store l.store l.g

abbrev pub decreases-loop-g : goal.decreases-loop-g
decreases-loop-g l = l.strips.count - l.g
