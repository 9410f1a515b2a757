-- `eights::storing::store_strip` meets its contract: the pieces before the e-th are stored. Assumes nothing.
use Rattle.table.specs.Run.{Wrote}
use Rattle.eights.specs.Store.{scaled}
use Rattle.eights.proofs.storing.store_strip.Given as goal

abbrev pub invariant-loop-e : goal.invariant-loop-e
invariant-loop-e l = Wrote (scaled l.weight l.store l.from) l.at l.e l.initial.table l.table
