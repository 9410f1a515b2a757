-- `strips::storing::store_strips` meets its contract: the strips that begin below the line a are stored. Assumes nothing.
use Prim.Native.Nat.{◌+◌, ◌-◌, ◌≤◌}
use mathlib.Core.Path.{◌≡◌}
use Rattle.table.specs.Entry.{pairs_below}
use Rattle.strips.proofs.Store.{Rows}
use Rattle.strips.proofs.storing.store_strips.Given as goal

abbrev pub invariant-loop-a : goal.invariant-loop-a
invariant-loop-a l = (l.a + l.w ≤ l.columns + 1) × ((l.row ≡ pairs_below l.columns l.a + (l.w - 1)) × Rows l.columns l.pairs l.w l.side l.initial.table l.a l.table)
