-- `strips::storing::store_strip` meets its contract: the pieces before the e-th are stored. Assumes nothing.
use Prim.Native.Nat.{◌≤◌}
use Rattle.table.specs.Run.{Wrote}
use Rattle.strips.specs.Chunk.{lane_of}
use Rattle.strips.proofs.storing.store_strip.Given as goal

abbrev pub invariant-loop-e : goal.invariant-loop-e
invariant-loop-e l = (l.e ≤ l.pairs) × Wrote (lane_of l.side l.a) l.at l.e l.initial.table l.table
