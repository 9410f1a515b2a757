-- `wheels::keep` meets its contract: the first i numbers are kept. Assumes nothing.
use Rattle.std.proofs.Common.{◌≤◌}
use Rattle.table.specs.Run.{Wrote}
use Rattle.strips.specs.Chunk.{listed}
use Rattle.wheels.proofs.keep.Given as goal

abbrev pub invariant-loop-i : goal.invariant-loop-i
invariant-loop-i l = (l.i ≤ l.n) × Wrote (listed l.side) l.at l.i l.initial.store l.store
