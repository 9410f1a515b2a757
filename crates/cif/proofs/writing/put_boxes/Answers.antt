-- `cif::writing::put_boxes` meets its contract. Assumes nothing.
use native.Mathlib.Omega.{arith}
use Rattle.cif.proofs.Putting.{upright, all_passed, boxing_room, boxing_more, boxing_end}
use Rattle.cif.proofs.writing.put_boxes.Goals as goal

pub put_box-next-requires-clause-x_low_le_x_high : goal.put_box-next-requires-clause-x_low_le_x_high
put_box-next-requires-clause-x_low_le_x_high c = (upright _ _ _ c.requires.0 (omega arith) c.shot_at.ensures).rising

pub put_box-next-requires-clause-y_high_in_bounds : goal.put_box-next-requires-clause-y_high_in_bounds
put_box-next-requires-clause-y_high_in_bounds c = boxing_room _ _ _ _ _ _ c.loop-i.invariant _ (omega arith) c.shot_at.ensures c.requires.1

pub loop-i-preserved : goal.loop-i-preserved
loop-i-preserved c =
    boxing_more _ _ _ _ _ _ c.loop-i.invariant _ (omega arith) c.shot_at.ensures _ _ c.put_box-next.ensures.value c.put_box-next.ensures.out_after

pub returns-clause-value : goal.returns-clause-value
returns-clause-value c = (boxing_end _ _ _ _ _ _ c.loop-i.invariant (all_passed _ _ c.requires.0 (omega arith))).0

pub returns-clause-out_after : goal.returns-clause-out_after
returns-clause-out_after c = (boxing_end _ _ _ _ _ _ c.loop-i.invariant (all_passed _ _ c.requires.0 (omega arith))).1
