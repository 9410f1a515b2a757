-- `shallow::cuts::least_cuts` meets its contract: the cuts below the line j are weighed. Assumes nothing.
use Prim.Native.Nat.{◌+◌}
use Rattle.table.specs.Run.{Lowest}
use Rattle.table.specs.Cuts.{uncut}
use Rattle.table.specs.Cuts.{parted}
use Rattle.shallow.proofs.Parting.{At}
use Rattle.shallow.proofs.cuts.least_cuts.Given as goal

abbrev pub invariant-loop-j : goal.invariant-loop-j
invariant-loop-j l = At l.columns l.pairs l.low l.high l.i l.j l.lower l.upper
    × (Lowest (parted l.table l.columns l.pairs l.low l.high l.i) l.low l.j uncut l.first
    × (Lowest (parted l.table l.columns l.pairs l.low l.high (l.i + 1)) l.low l.j uncut l.second
    × Lowest (parted l.table l.columns l.pairs l.low l.high (l.i + 2)) l.low l.j uncut l.third))
