-- `shallow::cuts::least_cut` meets its contract: the cuts below the line j are weighed. Assumes nothing.
use mathlib.Core.Path.{refl, ◌∙◌}
use native.Mathlib.Omega.{arith}
use Rattle.table.proofs.Run.{lowest-none, lowest-more}
use Rattle.shallow.proofs.Parting.{at-start, start_small, at_more, at_small, at_read, lowest-end}
use Rattle.shallow.proofs.cuts.least_cut.Goals as goal

pub overflow_add-lower : goal.overflow_add-lower
overflow_add-lower c = omega (arith, c.requires.1, c.requires.0.pairs-most, start_small _ _ c.requires.0)

pub overflow_add-upper : goal.overflow_add-upper
overflow_add-upper c = (omega (arith, start_small _ _ c.requires.0))

pub overflow_add-upper-2 : goal.overflow_add-upper-2
overflow_add-upper-2 c = omega (arith, c.requires.1, c.requires.0.pairs-most, start_small _ _ c.requires.0)

pub loop-j-init : goal.loop-j-init
loop-j-init c = ((at-start _ _ c.requires.0 _, lowest-none _ _ _))

pub parts-requires : goal.parts-requires
parts-requires c = (at_read _ _ c.requires.0 _ _ _ _ c.loop-j-test.true c.loop-j.invariant.0 _ c.loop-j.lower c.loop-j.upper c.requires.1 refl refl).1

pub overflow_add-lower-in-loop-j : goal.overflow_add-lower-in-loop-j
overflow_add-lower-in-loop-j c = omega (arith, at_small _ _ c.requires.0 _ _ _ _ c.loop-j-test.true c.loop-j.invariant.0 c.requires.1, c.requires.0.pairs-most)

pub overflow_add-upper-in-loop-j : goal.overflow_add-upper-in-loop-j
overflow_add-upper-in-loop-j c = omega (arith, at_small _ _ c.requires.0 _ _ _ _ c.loop-j-test.true c.loop-j.invariant.0 c.requires.1)

pub loop-j-preserved : goal.loop-j-preserved
loop-j-preserved c =
    let r = at_read _ _ c.requires.0 _ _ _ _ c.loop-j-test.true c.loop-j.invariant.0 c.args.i c.loop-j.lower c.loop-j.upper c.requires.1 refl refl in (
      at_more _ _ c.requires.0 _ _ _ _ c.loop-j-test.true c.loop-j.invariant.0,
      rw c.min-best.ensures (lowest-more _ _ _ _ _ _ c.loop-j.invariant.0.above (c.parts.ensures ∙ r.0) c.loop-j.invariant.1),
    )

pub returns : goal.returns
returns c = (lowest-end _ _ _ _ _ _ c.loop-j.invariant.0.most c.loop-j-test.false c.loop-j.invariant.1)
