-- `table::numbering::entries` meets its contract. Assumes nothing.
use mathlib.Core.Path.{ap₂}
use Prim.Native.Nat.{◌*◌}
use Rattle.table.specs.Entry.{entry_count}
use Rattle.table.proofs.numbering.entries.Goals as goal

pub returns : goal.returns
unfolding entry_count
returns c = ap₂ ◌*◌ c.pair_count.ensures.0 c.pair_count-2.ensures.0
