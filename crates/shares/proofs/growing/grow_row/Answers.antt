-- `shares::growing::grow_row` meets its contract: three runs grow, and the fourth is written anew. Assumes nothing.
use Rattle.std.proofs.Common.{arith}
use Rattle.shares.proofs.Growth.{row-grown}
use Rattle.shares.proofs.growing.grow_row.Goals as goal

pub returns : goal.returns
returns c = row-grown _ _ _ _ _ _ _ _ _ _ c.add_shares.ensures c.add_shares-2.ensures c.add_shares-3.ensures c.add_flanks.ensures (omega arith)
