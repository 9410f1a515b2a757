-- `lowering::lower_strips` meets its contract. The loop's invariant: the strips that begin at a and end below c are lowered. Assumes nothing.
use native.Mathlib.Omega.{arith}
use Rattle.table.proofs.Fill.{beyond-none, beyond_trans}
use Rattle.lowering.proofs.Steps.{lowering_last}
use Rattle.lowering.proofs.lower_strips.Goals as goal

pub loop-c-init : goal.loop-c-init
loop-c-init c = (omega arith, omega (arith, c.requires.room), λ g r w. w, beyond-none _ _)

pub lower_strip-requires : goal.lower_strip-requires
lower_strip-requires c =
    record {
      grid = c.requires.grid;
      rule = c.requires.rule;
      here = c.loop-c.invariant.2 c.requires.grid c.requires.rule c.requires.here;
      ac = omega (arith, c.loop-c.invariant.0);
      cx = omega (arith, c.loop-c-test.true);
    }

pub loop-c-preserved : goal.loop-c-preserved
loop-c-preserved c = (
  omega (arith, c.loop-c.invariant.0),
  omega (arith, c.loop-c-test.true),
  λ g r w. c.lower_strip.ensures.lowering g r (c.loop-c.invariant.2 g r w),
  beyond_trans _ _ _ _ c.loop-c.invariant.3 c.lower_strip.ensures.beyond,
)

pub returns : goal.returns
returns c = record { lowering = λ g r w. lowering_last g r _ _ _ _ _ _ (omega (arith, c.loop-c-test, c.loop-c.invariant.1)) (c.loop-c.invariant.2 g r w); beyond = c.loop-c.invariant.3 }
