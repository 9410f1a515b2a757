-- `count::corners::widen` meets its contract: the rows before the j-th have their reach. Assumes nothing.
use native.Mathlib.Omega.{arith}
use Rattle.table.proofs.Run.{wrote_none, wrote_end}
use Rattle.count.proofs.Climbing.{widen_more, widen_few}
use Rattle.count.proofs.corners.widen.Goals as goal

pub overflow_mul-first : goal.overflow_mul-first
overflow_mul-first c = omega (arith, c.requires.column-most)

pub loop-j-init : goal.loop-j-init
loop-j-init c = (omega arith, wrote_none _ _ _)

pub farther-requires : goal.farther-requires
farther-requires c = (widen_few _ _ _ _ _ c.loop-j.invariant.1 (c.requires.few _ c.loop-j-test.true))

pub loop-j-preserved : goal.loop-j-preserved
loop-j-preserved c = ((omega arith, widen_more _ _ _ _ _ _ c.requires.reaches_length (omega (arith, c.requires.rows-most)) c.farther.ensures c.loop-j.invariant.1))

pub returns : goal.returns
returns c = wrote_end _ _ _ _ _ _ c.loop-j.invariant.0 c.loop-j-test.false c.loop-j.invariant.1
