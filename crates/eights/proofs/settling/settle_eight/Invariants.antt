-- `eights::settling::settle_eight` meets its contract: the pieces that begin at the line b or above are settled. Assumes nothing.
use Prim.Native.Nat.{ℕ, ◌+◌}
use mathlib.Core.Path.{◌≡◌}
use Rattle.table.specs.Entry.{pairs_below}
use Rattle.eights.specs.Store.{Within}
use Rattle.eights.specs.Price.{sheet_of, Prices, Ahead, Known}
use Rattle.eights.proofs.settling.settle_eight.Given as goal

abbrev pub invariant-loop-b : goal.invariant-loop-b
invariant-loop-b l = (l.first ≡ pairs_below l.strips.rows l.b) × (Within l.strips.pairs l.strips.width l.g l.initial.store l.store × (Ahead (sheet_of l.strips) l.store l.g l.b (l.strips.rows + 1) × ((s : ℕ → ℕ → ℕ → ℕ) → Prices s (sheet_of l.strips) l.initial.store → Known s (sheet_of l.strips) l.store l.g l.b (l.strips.rows + 1))))
