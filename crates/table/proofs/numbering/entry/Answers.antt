-- `table::numbering::entry` meets its contract: the two numbers of pairs are the digits of the entry. Assumes nothing.
use Rattle.table.proofs.Entry.{entry-join}
use Rattle.table.proofs.numbering.entry.Goals as goal

pub returns : goal.returns
returns c =
    entry-join _ _ _ _ _ _ _ _ _ c.pair_number.ensures.0 c.pair_count.ensures.0 c.pair_number-2.ensures.0
    c.requires.1.1
