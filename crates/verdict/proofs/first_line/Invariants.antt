-- `verdict::first_line` meets its contract. The loop's invariant: the two entries are those of the parts at j, and
-- no line passed has the cost. Assumes nothing.
use Prim.Native.Nat.{◌+◌}
use mathlib.Core.Path.{◌≡◌}
use Rattle.verdict.specs.Search.{across}
use Rattle.verdict.proofs.Search.{Passed}
use Rattle.verdict.proofs.Across.{At}
use Rattle.verdict.proofs.first_line.Given as goal

abbrev pub invariant-loop-j : goal.invariant-loop-j
invariant-loop-j l = At l.fn.cuts l.j l.lower l.upper × Passed (λ k. across l.table l.fn.cuts k ≡ l.cost) (l.fn.cuts.low.0 + 1) l.j
