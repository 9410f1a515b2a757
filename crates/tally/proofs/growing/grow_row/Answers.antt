-- `tally::growing::grow_row` meets its contract: three runs grow, and the fourth is written anew. Assumes nothing.
use mathlib.Core.Path.{◌∙◌}
use native.Mathlib.Omega.{arith}
use Rattle.tally.proofs.Growth.{row_first, row-second, row-third, row-grown}
use Rattle.tally.proofs.growing.grow_row.Goals as goal

pub add_shares-requires : goal.add_shares-requires
add_shares-requires c = record { sums_len = (c.requires.sums-long, (omega (arith, c.requires.row-most), omega (arith, c.requires.row-most, c.requires.last-most))); slight = (c.requires.slight, row_first _ _ _ _ c.requires) }

pub add_shares-requires-2 : goal.add_shares-requires-2
add_shares-requires-2 c = record { sums_len = (c.add_shares.ensures.long ∙ c.requires.sums-long, (omega (arith, c.requires.row-most), omega (arith, c.requires.row-most, c.requires.last-most))); slight = (c.requires.slight, row-second _ _ _ _ c.requires _ _ c.add_shares.ensures) }

pub add_shares-requires-3 : goal.add_shares-requires-3
add_shares-requires-3 c = record { sums_len = (c.add_shares-2.ensures.long ∙ c.add_shares.ensures.long ∙ c.requires.sums-long, (omega (arith, c.requires.row-most), omega (arith, c.requires.row-most, c.requires.last-most))); slight = (c.requires.slight, row-third _ _ _ _ c.requires _ _ c.add_shares.ensures _ _ c.add_shares-2.ensures) }

pub returns : goal.returns
returns c = row-grown _ _ _ _ _ _ _ _ c.add_shares.ensures c.add_shares-2.ensures c.add_shares-3.ensures c.add_flanks.ensures c.requires.row-most
