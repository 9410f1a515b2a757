-- `shallow::cuts::least_cuts` meets its contract: the cuts below the line j are weighed. Assumes nothing.
use Prim.Native.Nat.{◌+◌}
use mathlib.Core.Path.{refl, ◌∙◌}
use native.Mathlib.Omega.{arith}
use Rattle.table.proofs.Run.{lowest-none, lowest-more}
use Rattle.shallow.proofs.Parting.{at-start, start_small, at_more, at_small, at_read, lowest-end}
use Rattle.shallow.proofs.cuts.least_cuts.Goals as goal

pub overflow_add-lower : goal.overflow_add-lower
overflow_add-lower c = omega (arith, c.requires.1, c.requires.0.pairs-most, start_small _ _ c.requires.0)

pub overflow_add-upper : goal.overflow_add-upper
overflow_add-upper c = (omega (arith, start_small _ _ c.requires.0))

pub overflow_add-upper-2 : goal.overflow_add-upper-2
overflow_add-upper-2 c = omega (arith, c.requires.1, c.requires.0.pairs-most, start_small _ _ c.requires.0)

pub loop-j-init : goal.loop-j-init
loop-j-init c = (at-start _ _ c.requires.0 _, (lowest-none _ _ _, (lowest-none _ _ _, lowest-none _ _ _)))

pub parts-requires : goal.parts-requires
parts-requires c = (at_read _ _ c.requires.0 _ _ _ _ c.loop-j-test.true c.loop-j.invariant.0 c.args.i c.loop-j.lower c.loop-j.upper (omega (arith, c.requires.1)) refl refl).1

pub overflow_add-lower-in-loop-j : goal.overflow_add-lower-in-loop-j
overflow_add-lower-in-loop-j c = omega (arith, at_small _ _ c.requires.0 _ _ _ _ c.loop-j-test.true c.loop-j.invariant.0 (omega (arith, c.requires.1)))

pub overflow_add-upper-in-loop-j : goal.overflow_add-upper-in-loop-j
overflow_add-upper-in-loop-j c = omega (arith, at_small _ _ c.requires.0 _ _ _ _ c.loop-j-test.true c.loop-j.invariant.0 (omega (arith, c.requires.1)))

pub parts-requires-in-loop-j : goal.parts-requires-in-loop-j
parts-requires-in-loop-j c = (at_read _ _ c.requires.0 _ _ _ _ c.loop-j-test.true c.loop-j.invariant.0 (c.args.i + 1) (c.loop-j.lower + 1) (c.loop-j.upper + 1) (omega (arith, c.requires.1)) (omega arith) (omega arith)).1

pub overflow_add-lower-in-loop-j-2 : goal.overflow_add-lower-in-loop-j-2
overflow_add-lower-in-loop-j-2 c = omega (arith, at_small _ _ c.requires.0 _ _ _ _ c.loop-j-test.true c.loop-j.invariant.0 (omega (arith, c.requires.1)))

pub overflow_add-upper-in-loop-j-2 : goal.overflow_add-upper-in-loop-j-2
overflow_add-upper-in-loop-j-2 c = omega (arith, at_small _ _ c.requires.0 _ _ _ _ c.loop-j-test.true c.loop-j.invariant.0 (omega (arith, c.requires.1)))

pub parts-requires-in-loop-j-2 : goal.parts-requires-in-loop-j-2
parts-requires-in-loop-j-2 c = (at_read _ _ c.requires.0 _ _ _ _ c.loop-j-test.true c.loop-j.invariant.0 (c.args.i + 2) (c.loop-j.lower + 2) (c.loop-j.upper + 2) (omega (arith, c.requires.1)) (omega arith) (omega arith)).1

pub overflow_add-lower-in-loop-j-3 : goal.overflow_add-lower-in-loop-j-3
overflow_add-lower-in-loop-j-3 c = omega (arith, at_small _ _ c.requires.0 _ _ _ _ c.loop-j-test.true c.loop-j.invariant.0 (omega (arith, c.requires.1)), c.requires.0.pairs-most)

pub overflow_add-upper-in-loop-j-3 : goal.overflow_add-upper-in-loop-j-3
overflow_add-upper-in-loop-j-3 c = omega (arith, at_small _ _ c.requires.0 _ _ _ _ c.loop-j-test.true c.loop-j.invariant.0 (omega (arith, c.requires.1)))

pub loop-j-preserved : goal.loop-j-preserved
loop-j-preserved c =
    let r = at_read _ _ c.requires.0 _ _ _ _ c.loop-j-test.true c.loop-j.invariant.0 in
    let r₁ = r c.args.i c.loop-j.lower c.loop-j.upper (omega (arith, c.requires.1)) refl refl in
    let r₂ = r (c.args.i + 1) (c.loop-j.lower + 1) (c.loop-j.upper + 1) (omega (arith, c.requires.1)) (omega arith) (omega arith) in
    let r₃ = r (c.args.i + 2) (c.loop-j.lower + 2) (c.loop-j.upper + 2) (omega (arith, c.requires.1)) (omega arith) (omega arith) in (
      at_more _ _ c.requires.0 _ _ _ _ c.loop-j-test.true c.loop-j.invariant.0,
      (
        rw c.min-first.ensures (lowest-more _ _ _ _ _ _ c.loop-j.invariant.0.above (c.parts.ensures ∙ r₁.0) c.loop-j.invariant.1.0),
        (
          rw c.min-second.ensures (lowest-more _ _ _ _ _ _ c.loop-j.invariant.0.above (c.parts-in-loop-j.ensures ∙ r₂.0) c.loop-j.invariant.1.1.0),
          rw c.min-third.ensures (lowest-more _ _ _ _ _ _ c.loop-j.invariant.0.above (c.parts-in-loop-j-2.ensures ∙ r₃.0) c.loop-j.invariant.1.1.1),
        ),
      ),
    )

pub returns : goal.returns
returns c =
    record {
      first = lowest-end _ _ _ _ _ _ c.loop-j.invariant.0.most c.loop-j-test.false c.loop-j.invariant.1.0;
      second = lowest-end _ _ _ _ _ _ c.loop-j.invariant.0.most c.loop-j-test.false c.loop-j.invariant.1.1.0;
      third = lowest-end _ _ _ _ _ _ c.loop-j.invariant.0.most c.loop-j-test.false c.loop-j.invariant.1.1.1;
    }
