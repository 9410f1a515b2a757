-- `count::corners::spared` meets its contract: the columns from the last one back. Assumes nothing.
use native.Mathlib.Omega.{arith}
use Rattle.count.proofs.Climbing.{widening_none, widening_ready, widening_climbable, widening_more, passing_end}
use Rattle.count.proofs.corners.spared.Goals as goal

pub loop-column-init : goal.loop-column-init
loop-column-init c = widening_none _ _ _

pub widen-requires : goal.widen-requires
widen-requires c = (widening_ready _ _ _ _ _ c.loop-column.reaches _ c.loop-column.invariant c.loop-column-test.true c.requires.1.0 c.requires.1.1 c.requires.0)

pub corners_at-sum-requires : goal.corners_at-sum-requires
corners_at-sum-requires c = (widening_climbable _ _ _ _ _ _ _ c.loop-column.invariant c.loop-column-test.true c.requires.1.0 c.requires.1.1 c.requires.0 c.widen.ensures)

pub overflow_add-sum : goal.overflow_add-sum
overflow_add-sum c = (omega (arith, c.loop-column.invariant.passing.small, c.corners_at-sum.ensures.1, c.requires.1.0))

pub loop-column-preserved : goal.loop-column-preserved
loop-column-preserved c = (widening_more _ _ _ _ _ _ _ c.loop-column.invariant c.loop-column-test.true c.requires.1.0 c.requires.1.1 c.requires.0 c.widen.ensures _ c.corners_at-sum.ensures)

pub returns : goal.returns
returns c = passing_end c.loop-column.invariant.passing c.loop-column-test.false
