-- `count::corners::corners_at` meets its contract: the corners of the rows passed. Assumes nothing.
use native.Mathlib.Omega.{arith}
use Rattle.count.proofs.Summing.{summed-none, summed-more, summed-end}
use Rattle.count.proofs.corners.corners_at.Goals as goal

pub loop-b-init : goal.loop-b-init
loop-b-init c = summed-none _ _ _

pub corner-sum-requires : goal.corner-sum-requires
corner-sum-requires c = (c.requires, c.loop-b-test.true)

pub overflow_add-sum : goal.overflow_add-sum
overflow_add-sum c = omega (arith, c.loop-b.invariant.small, c.corner-sum.ensures.1, c.loop-b-test.true, c.requires.rows-most)

pub loop-b-preserved : goal.loop-b-preserved
loop-b-preserved c = summed-more _ _ _ _ _ _ c.loop-b-test.true c.corner-sum.ensures c.loop-b.invariant

pub returns : goal.returns
returns c =
    let e = summed-end _ _ _ _ _ c.loop-b-test.false c.loop-b.invariant in
    (e.0, omega (arith, e.1, c.requires.rows-most))
