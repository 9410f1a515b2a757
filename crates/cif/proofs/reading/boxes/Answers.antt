-- `cif::reading::boxes` meets its contract. Assumes nothing.
use native.Mathlib.Omega.{arith}
use Rattle.cif.proofs.Boxing.{walked_start, walked_more}
use Rattle.cif.proofs.reading.boxes.Goals as goal

pub loop-found-init : goal.loop-found-init
loop-found-init c = walked_start _ _ (omega arith)

pub loop-found-preserved : goal.loop-found-preserved
loop-found-preserved c = walked_more _ _ _ _ c.loop-found.invariant _ _ c.in-Some.ensures
