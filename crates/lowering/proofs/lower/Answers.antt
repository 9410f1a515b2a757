-- `lowering::lower` meets its contract. The loop's invariant: the strips that begin at a or above are lowered. Assumes nothing.
use native.Mathlib.Omega.{arith}
use Rattle.table.proofs.Fill.{beyond-none, beyond_trans}
use Rattle.lowering.proofs.Steps.{lowering_first, lowering_down, lowering_all}
use Rattle.lowering.proofs.lower.Goals as goal

pub loop-a-init : goal.loop-a-init
loop-a-init c = (omega arith, λ g r w. lowering_first g r _ _ _ w c.requires.sized, beyond-none _ _)

pub lower_strips-requires : goal.lower_strips-requires
lower_strips-requires c =
    record {
      grid = c.requires.grid;
      rule = c.requires.rule;
      here = lowering_down _ _ _ _ _ _ c.loop-a-test.true (c.loop-a.invariant.1 c.requires.grid c.requires.rule c.requires.costed);
      room = omega (arith, c.loop-a-test.true, c.loop-a.invariant.0);
    }

pub loop-a-preserved : goal.loop-a-preserved
loop-a-preserved c = (
  omega (arith, c.loop-a.invariant.0),
  λ g r w. c.lower_strips.ensures.lowering g r (lowering_down g r _ _ _ _ c.loop-a-test.true (c.loop-a.invariant.1 g r w)),
  beyond_trans _ _ _ _ c.loop-a.invariant.2 c.lower_strips.ensures.beyond,
)

pub returns : goal.returns
returns c = record { costed = λ g r w. lowering_all g r _ _ _ _ (omega (arith, c.loop-a-test)) (c.loop-a.invariant.1 g r w); beyond = c.loop-a.invariant.2 }
