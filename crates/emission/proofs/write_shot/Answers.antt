-- `emission::write_shot` meets its contract. Assumes nothing.
use mathlib.Core.Path.{refl}
use native.Mathlib.Omega.{arith}
use lib.ListN.{length-set}
use Rattle.emission.proofs.Emitted.{sets_four}
use Rattle.emission.proofs.write_shot.Goals as goal

pub bounds-list-at-2 : goal.bounds-list-at-2
bounds-list-at-2 c = simp length-set (omega arith)

pub bounds-list-at-3 : goal.bounds-list-at-3
bounds-list-at-3 c = simp length-set (omega arith)

pub bounds-list-at-4 : goal.bounds-list-at-4
bounds-list-at-4 c = simp length-set (omega arith)

pub returns : goal.returns
returns c = (
  sets_four c.args.list.now c.args.at c.place_of-left.ensures c.place_of-bottom.ensures c.place_of-right.ensures c.place_of-top.ensures,
  refl,
)
