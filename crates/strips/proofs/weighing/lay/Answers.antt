-- `strips::weighing::lay` meets its contract: the numbers before the i-th are laid. Assumes nothing.
use native.Mathlib.Omega.{arith}
use Rattle.strips.proofs.Chunk.{listed_at, laid_none, laid_more, laid_end}
use Rattle.strips.proofs.weighing.lay.Goals as goal

pub loop-i-init : goal.loop-i-init
loop-i-init c = (omega arith, laid_none _ _ _ _)

pub loop-i-preserved : goal.loop-i-preserved
loop-i-preserved c = (
  omega arith,
  laid_more _ _ _ _ _ c.loop-i.side _ c.requires.1.0 (omega (arith, c.loop-i.invariant.1.long, c.requires.0)) (listed_at c.args.list.now c.loop-i.i) c.loop-i.invariant.1,
)

pub returns : goal.returns
returns c = laid_end _ _ _ _ _ _ _ c.loop-i.invariant.0 c.loop-i-test.false c.loop-i.invariant.1
