-- `eights::settling::settle_from` meets its contract: the pieces that begin at the line low and end below the line high are settled. Assumes nothing.
use Prim.Native.Nat.{ℕ, ◌+◌, ◌*◌, ◌-◌}
use mathlib.Core.Path.{◌≡◌}
use Rattle.eights.specs.Store.{Within}
use Rattle.eights.specs.Price.{sheet_of, Prices, Ahead, Known}
use Rattle.eights.proofs.Pricing.{Running}
use Rattle.eights.proofs.settling.settle_from.Given as goal

abbrev pub invariant-loop-high : goal.invariant-loop-high
invariant-loop-high l = (l.cells ≡ (l.high - 1 - l.low) * l.strips.width) × (Running l.strips.sums.now l.strips.count l.g l.low (l.high - 1) l.count l.flanks × (Within l.strips.pairs l.strips.width l.g l.initial.store l.store × (Ahead (sheet_of l.strips) l.store l.g l.low l.high × ((s : ℕ → ℕ → ℕ → ℕ) → Prices s (sheet_of l.strips) l.initial.store → Known s (sheet_of l.strips) l.initial.store l.g l.low (l.low + 1) → Known s (sheet_of l.strips) l.store l.g l.low l.high))))
