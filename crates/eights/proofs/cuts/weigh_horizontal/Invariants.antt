-- `eights::cuts::weigh_horizontal` meets its contract: the cuts below the line k are weighed. Assumes nothing.
use Prim.Native.Nat.{◌-◌}
use Rattle.table.specs.Entry.{pairs_below}
use Rattle.eights.proofs.Cut.{Stacks}
use Rattle.eights.proofs.cuts.weigh_horizontal.Given as goal

abbrev pub invariant-loop-k : goal.invariant-loop-k
invariant-loop-k l = Stacks l.store l.initial.best l.rows (l.first - pairs_below l.rows l.low) l.g l.low l.high l.k l.lower l.upper l.best
