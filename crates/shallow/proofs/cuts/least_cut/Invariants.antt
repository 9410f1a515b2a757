-- `shallow::cuts::least_cut` meets its contract: the cuts below the line j are weighed. Assumes nothing.
use Rattle.table.specs.Run.{Lowest}
use Rattle.table.specs.Cuts.{uncut}
use Rattle.table.specs.Cuts.{parted}
use Rattle.shallow.proofs.Parting.{At}
use Rattle.shallow.proofs.cuts.least_cut.Given as goal

abbrev pub invariant-loop-j : goal.invariant-loop-j
invariant-loop-j l = At l.columns l.pairs l.low l.high l.i l.j l.lower l.upper × Lowest (parted l.table l.columns l.pairs l.low l.high l.i) l.low l.j uncut l.best
