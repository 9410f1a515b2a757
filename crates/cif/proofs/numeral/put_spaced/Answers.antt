-- `cif::numeral::put_spaced` meets its contract. Assumes nothing.
use native.Mathlib.Omega.{arith}
use lib.ListN.{length-set}
use Rattle.cif.proofs.Putting.{put-field}
use borrow.Author.Rules.{rules}
use Rattle.cif.proofs.numeral.put_spaced.Goals as goal

pub put_number-requires : goal.put_number-requires
put_number-requires c = (search rules, simp length-set (omega arith))

pub returns : goal.returns
returns c = put-field c.args.out.now c.args.at c.args.n _ _ c.put_number.ensures.0 c.put_number.ensures.1
