-- `widths::lanes::weigh_lanes` meets its contract: the cuts below the line k are weighed. Assumes nothing.
use Prim.Native.Nat.{ℕ, ◌+◌, ◌*◌, ◌-◌, ◌≤◌, ◌<◌}
use mathlib.Core.Path.{◌≡◌}
use lib.ListN.{length, get_or}
use Rattle.table.specs.Entry.{pairs_below}
use Rattle.table.specs.Run.{Lowest}
use Rattle.widths.specs.Lane.{parts_at}
use Rattle.widths.proofs.lanes.weigh_lanes.Given as goal

abbrev pub invariant-loop-k : goal.invariant-loop-k
invariant-loop-k now = (now.low < now.k) × ((now.k ≤ now.high) × ((length now.best ≡ length now.initial.best) × ((now.lower ≡ 16 * (pairs_below now.rows now.low + (now.k - now.low - 1))) × ((now.upper ≡ 16 * (pairs_below now.rows now.k + (now.high - now.k) - 1)) × ((l : ℕ) → l < now.lanes → Lowest (parts_at now.side now.rows l now.low now.high) now.low now.k (get_or now.initial.best l 0) (get_or now.best l 0))))))
