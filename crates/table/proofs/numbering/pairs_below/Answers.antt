-- `table::numbering::pairs_below` meets its contract: the closed formula counts the pairs. Assumes nothing.
use native.Mathlib.Omega.{arith}
use Rattle.table.proofs.Entry.{below-lines, below-most}
use Rattle.table.proofs.numbering.pairs_below.Goals as goal

pub returns : goal.returns
returns c = omega (arith, below-lines c.args.last c.args.a.0 c.requires.1, below-most c.args.last c.args.a.0 c.requires.0)
