-- `cif::writing::measure` meets its contract. Assumes nothing.
use native.Mathlib.Omega.{arith}
use mathlib.Core.Path.{refl}
use Rattle.cif.proofs.Putting.{upright, all_passed, measure_short, measure_more, measure_end}
use Rattle.cif.proofs.writing.measure.Goals as goal

pub box_size-line-requires : goal.box_size-line-requires
box_size-line-requires c = (upright _ _ _ c.requires (omega arith) c.shot_at.ensures).rising

pub returns-then-room-used : goal.returns-then-room-used
returns-then-room-used c = (refl, measure_short _ _ _ _ c.loop-i.invariant _ _ (omega arith) c.shot_at.ensures c.box_size-line.ensures.0 (omega arith))

pub loop-i-preserved : goal.loop-i-preserved
loop-i-preserved c = measure_more _ _ _ _ c.loop-i.invariant _ _ (omega arith) c.shot_at.ensures c.box_size-line.ensures.0 (omega arith)

pub returns : goal.returns
returns c = measure_end _ _ _ _ c.loop-i.invariant (all_passed _ _ c.requires (omega arith))
