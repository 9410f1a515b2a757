-- `cif::reading::put_shot` meets its contract. Assumes nothing.
use native.Mathlib.Omega.{arith}
use lib.ListN.{length-set}
use Rattle.cif.proofs.Words.{shot-put}
use Rattle.cif.proofs.reading.put_shot.Goals as goal

pub bounds-list-at-2 : goal.bounds-list-at-2
bounds-list-at-2 c = simp length-set (omega arith)

pub bounds-list-at-3 : goal.bounds-list-at-3
bounds-list-at-3 c = simp length-set (omega arith)

pub bounds-list-at-4 : goal.bounds-list-at-4
bounds-list-at-4 c = simp length-set (omega arith)

pub returns : goal.returns
returns c = shot-put c.args.list.now c.args.at c.args.shot.x_low c.args.shot.y_low c.args.shot.x_high c.args.shot.y_high
