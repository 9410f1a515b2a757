-- `division::count_parts` meets its contract. The invariant: the parts are counted as far as shot k. Assumes nothing.
use native.Mathlib.Omega.{arith}
use Rattle.division.proofs.Loops.{at_solid, counting-start, counting-fits, counting-next, counting-end}
use Rattle.division.proofs.count_parts.Goals as goal

pub loop-k-init : goal.loop-k-init
loop-k-init c = counting-start _ _ _

pub sides_of-sides-requires : goal.sides_of-sides-requires
sides_of-sides-requires c = at_solid _ _ _ _ c.requires c.loop-k-test.true

pub overflow_mul-parts : goal.overflow_mul-parts
overflow_mul-parts c = record { fits = omega (arith, counting-fits _ _ _ c.requires _ _ c.loop-k.invariant c.loop-k-test.true _ _ c.sides_of-sides.ensures) }

pub overflow_add-parts : goal.overflow_add-parts
overflow_add-parts c = record { fits = omega (arith, counting-fits _ _ _ c.requires _ _ c.loop-k.invariant c.loop-k-test.true _ _ c.sides_of-sides.ensures) }

pub loop-k-preserved : goal.loop-k-preserved
loop-k-preserved c = counting-next _ _ _ c.requires _ _ c.loop-k.invariant c.loop-k-test.true _ _ c.sides_of-sides.ensures

pub returns : goal.returns
returns c = counting-end _ _ _ c.requires _ _ c.loop-k.invariant c.loop-k-test.false
