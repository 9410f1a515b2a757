-- `run_outlines` says whether one of the outlines is refused, unless a write failed: the loop knows it of those that it passed. Assumes nothing.
use Prim.Native.Nat.{◌-◌, ◌≤◌}
use mathlib.Core.Path.{◌≡◌}
use lib.ListN.{length}
use Rattle.terminal.specs.Output.{Remembers}
use Rattle.preparation.specs.Outlines.{any_refused}
use Rattle.preparation.proofs.outlines.run_outlines.Given as goal

abbrev pub invariant-loop-k : goal.invariant-loop-k
invariant-loop-k l = (length l.table ≡ length l.initial.table) × (length l.list ≡ length l.initial.list) × (l.k ≤ l.count) × (l.refused ≡ any_refused l.job l.k) × Remembers l.initial.next l.next

abbrev pub decreases-loop-k : goal.decreases-loop-k
decreases-loop-k l = l.count - l.k
