-- `table::numbering::pair_count` meets its contract. Assumes nothing.
use Rattle.table.specs.Entry.{pair_count}
use borrow.Author.Rules.{rules}
use Rattle.table.proofs.numbering.pair_count.Goals as goal

pub returns : goal.returns
unfolding pair_count
returns c = search rules
