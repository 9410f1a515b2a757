-- `widths::settling::settle` meets its contract: the pieces that begin at the line b or above are settled. Assumes nothing.
use Prim.Native.Nat.{ℕ, ◌+◌, ◌≤◌}
use mathlib.Core.Path.{◌≡◌}
use lib.ListN.{length}
use Rattle.table.specs.Entry.{pairs_below}
use Rattle.widths.specs.Price.{sheet, Priced}
use Rattle.widths.proofs.settling.settle.Given as goal

abbrev pub invariant-loop-b : goal.invariant-loop-b
invariant-loop-b l = (l.b ≤ l.rows) × ((l.first ≡ pairs_below l.rows l.b) × ((length l.side ≡ length l.initial.side) × ((s : ℕ → ℕ → ℕ → ℕ) → Priced s (sheet l.sums l.widths l.ys l.rule l.rows l.w l.n) l.initial.side l.rows (l.rows + 1) → Priced s (sheet l.sums l.widths l.ys l.rule l.rows l.w l.n) l.side l.b (l.rows + 1))))
