-- `count::flat::spared_of_one` meets its contract: the columns passed. Assumes nothing.
use Prim.Native.Nat.{◌-◌, ◌<◌}
use mathlib.Core.Path.{◌≡◌}
use native.Mathlib.Omega.{arith}
use Rattle.count.specs.Corners.{reach_at}
use Rattle.count.proofs.Climbing.{passing_none, passing_more, passing_end}
use Rattle.count.proofs.Singles.{reach_none, reach_few, reach_more, reach_range, spared-one}
use Rattle.count.proofs.flat.spared_of_one.Goals as goal

pub loop-column-init : goal.loop-column-init
loop-column-init c = (passing_none _ _ _, reach_none _ _ 0)

pub reach_from-low-requires : goal.reach_from-low-requires
reach_from-low-requires c = (c.requires.0, (omega (arith, c.requires.1, c.loop-column.invariant.0.to, c.loop-column-test.true), (omega arith, reach_few _ _ _ 0 _ c.requires.1 c.loop-column.invariant.1)))

pub of_one-sum-requires : goal.of_one-sum-requires
of_one-sum-requires c =
    let now-low : (c.reach_from-low.result ≡ reach_at c.args.cells.now c.args.columns (c.loop-column.column - 1) 0) = (reach_more _ _ _ 0 _ _ c.loop-column-test.true c.loop-column.invariant.0.to c.loop-column.invariant.1 c.reach_from-low.ensures) in
    let k : c.loop-column.column - 1 < c.args.columns = omega (arith, c.loop-column.invariant.0.to, c.loop-column-test.true) in
    reach_range _ _ _ 0 _ k c.requires.1 (now-low)

pub overflow_add-sum : goal.overflow_add-sum
overflow_add-sum c = (omega (arith, c.loop-column.invariant.0.small, c.requires.1, c.of_one-sum.ensures.1))

pub loop-column-preserved : goal.loop-column-preserved
loop-column-preserved c =
    let now-low : (c.reach_from-low.result ≡ reach_at c.args.cells.now c.args.columns (c.loop-column.column - 1) 0) = (reach_more _ _ _ 0 _ _ c.loop-column-test.true c.loop-column.invariant.0.to c.loop-column.invariant.1 c.reach_from-low.ensures) in (
      passing_more _ c.loop-column.invariant.0 c.loop-column-test.true (spared-one _ _ _ _ _ (now-low) c.of_one-sum.ensures.0) (omega (arith, c.of_one-sum.ensures.1)),
      now-low,
    )

pub returns : goal.returns
returns c = passing_end c.loop-column.invariant.0 c.loop-column-test.false
