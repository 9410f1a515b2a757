-- `strips::weighing::weigh_cuts` meets its contract: the cuts below the line j are weighed. Assumes nothing.
use Prim.Native.Nat.{◌+◌, ◌-◌, ◌*◌, ◌≤◌, ◌<◌}
use mathlib.Core.Path.{◌≡◌}
use Rattle.table.specs.Entry.{pairs_below}
use Rattle.strips.proofs.Chunk.{Cuts}
use Rattle.strips.proofs.weighing.weigh_cuts.Given as goal

abbrev pub invariant-loop-j : goal.invariant-loop-j
invariant-loop-j l = (l.a < l.j) × ((l.j ≤ l.a + l.w) × ((l.lower ≡ (l.first + (l.j - l.a - 1)) * l.pairs + l.e) × ((l.upper + l.pairs ≡ (pairs_below l.columns l.j + (l.a + l.w - l.j)) * l.pairs + l.e) × Cuts l.columns l.pairs l.a (l.a + l.w) l.e l.n l.table l.initial.best l.j l.best)))
