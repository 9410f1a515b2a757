-- `division::writing::write_part` meets its contract. Assumes nothing.
use native.Mathlib.Omega.{arith}
use lib.ListN.{length-set}
use Rattle.division.proofs.Written.{sets_four}
use Rattle.division.proofs.writing.write_part.Goals as goal

pub bounds-list-at-2 : goal.bounds-list-at-2
bounds-list-at-2 c = simp length-set (omega arith)

pub bounds-list-at-3 : goal.bounds-list-at-3
bounds-list-at-3 c = simp length-set (omega arith)

pub bounds-list-at-4 : goal.bounds-list-at-4
bounds-list-at-4 c = simp length-set (omega arith)

pub returns : goal.returns
returns c = sets_four c.args.list.now c.args.at c.args.left c.args.bottom c.args.right c.args.top
