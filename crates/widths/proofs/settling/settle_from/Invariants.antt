-- `widths::settling::settle_from` meets its contract: the pieces that begin at the line low and end below the line high are settled. Assumes nothing.
use Prim.Native.Nat.{ℕ, ◌+◌, ◌*◌, ◌-◌, ◌≤◌, ◌<◌}
use mathlib.Core.Path.{◌≡◌}
use native.Mathlib.Omega.{arith}
use lib.ListN.{length}
use Rattle.widths.specs.Price.{sheet, Priced}
use Rattle.widths.proofs.Price.{Running}
use Rattle.widths.proofs.settling.settle_from.Given as goal

zero_left : (b : ℕ) → b + 1 - 1 - b ≡ 0
zero_left b = omega arith

back-left : (d b : ℕ) → d - b ≡ d + 1 - 1 - b
back-left d b = omega arith

abbrev pub invariant-loop-high : goal.invariant-loop-high
invariant-loop-high l = (l.low < l.high) × ((l.high ≤ l.rows + 1) × ((l.cells ≡ (l.high - 1 - l.low) * l.w) × ((length l.side ≡ length l.initial.side) × (Running l.rule l.sums l.widths l.n l.low (l.high - 1) l.count l.flanks × ((s : ℕ → ℕ → ℕ → ℕ) → Priced s (sheet l.sums l.widths l.ys l.rule l.rows l.w l.n) l.initial.side l.low (l.low + 1) → Priced s (sheet l.sums l.widths l.ys l.rule l.rows l.w l.n) l.side l.low l.high)))))

abbrev pub decreases-loop-high : goal.decreases-loop-high
decreases-loop-high l = l.rows + 1 - l.high
