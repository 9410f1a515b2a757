-- `table::numbering::pair_number` meets its contract. Assumes nothing.
use native.Mathlib.Omega.{arith}
use Rattle.table.specs.Entry.{pair_no}
use Rattle.table.proofs.numbering.pair_number.Goals as goal

pub returns : goal.returns
unfolding pair_no
returns c = omega arith
