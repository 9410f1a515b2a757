-- `lowering::lower_weighed` meets its contract. The loop's invariant: the pieces that begin at b or above are lowered. Assumes nothing.
use native.Mathlib.Omega.{arith}
use Rattle.table.proofs.Fill.{beyond-none, beyond_trans}
use Rattle.lowering.proofs.Steps.{standing-high, standing_down, standing-all}
use Rattle.lowering.proofs.lower_weighed.Goals as goal

pub loop-b-init : goal.loop-b-init
loop-b-init c = (omega arith, λ g r w. standing-high g r _ _ _ _ _ _ w, beyond-none _ _)

pub lower_pieces-requires : goal.lower_pieces-requires
lower_pieces-requires c =
    record {
      grid = c.requires.grid;
      rule = c.requires.rule;
      here = standing_down _ _ _ _ _ _ _ _ _ c.loop-b-test.true (c.loop-b.invariant.1 c.requires.grid c.requires.rule c.requires.here);
      ac = c.requires.ac;
      cx = c.requires.cx;
      room = omega (arith, c.loop-b-test.true, c.loop-b.invariant.0);
    }

pub loop-b-preserved : goal.loop-b-preserved
loop-b-preserved c = (
  omega (arith, c.loop-b.invariant.0),
  λ g r w. c.lower_pieces.ensures.standing g r (standing_down g r _ _ _ _ _ _ _ c.loop-b-test.true (c.loop-b.invariant.1 g r w)),
  beyond_trans _ _ _ _ c.loop-b.invariant.2 c.lower_pieces.ensures.beyond,
)

pub returns : goal.returns
returns c = record { lowering = λ g r w. standing-all g r _ _ _ _ _ _ _ (omega (arith, c.loop-b-test)) (c.loop-b.invariant.1 g r w); beyond = c.loop-b.invariant.2 }
