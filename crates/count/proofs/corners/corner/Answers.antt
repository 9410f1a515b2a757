-- `count::corners::corner` meets its contract: the shares of the rows passed. Assumes nothing.
use Prim.Native.Nat.{◌≤◌}
use mathlib.Core.Path.{refl}
use native.Mathlib.Omega.{arith}
use Rattle.count.specs.Corners.{cell_at, number_at}
use Rattle.count.proofs.Climbing.{climbing_none, climbing_more, climbing_stop, climbing_end, share-fits}
use Rattle.count.proofs.corners.corner.Goals as goal

pub loop-j-init : goal.loop-j-init
unfolding cell_at number_at
loop-j-init c = (climbing_none _ _ _ _ _ _ refl refl c.requires.1 (c.requires.0.some _ c.requires.1) (c.requires.0.few _ c.requires.1))

pub returns-then-cells-first : goal.returns-then-cells-first
unfolding cell_at number_at
returns-then-cells-first c = (climbing_stop _ _ c.loop-j.invariant c.requires.0.rows-most refl c.if-cells-first.true)

pub overflow_mul-sum : goal.overflow_mul-sum
overflow_mul-sum c = (omega (arith, c.loop-j.invariant.from, c.loop-j.invariant.to, c.requires.0.rows-most))

pub overflow_add-sum : goal.overflow_add-sum
unfolding number_at
overflow_add-sum c =
    let narrowed : (1 ≤ c.min-narrow.result) × (c.min-narrow.result ≤ 15) = (let k = c.requires.0.some _ c.loop-j-test.true in
    let m = c.requires.0.few _ c.loop-j-test.true in
    omega (arith, c.min-narrow.ensures, c.loop-j.invariant.some, c.loop-j.invariant.few)) in
    (omega (arith, narrowed, c.loop-j.invariant.from, c.loop-j.invariant.to, c.requires.0.rows-most))

pub overflow_sub-sum : goal.overflow_sub-sum
unfolding number_at
overflow_sub-sum c =
    let narrowed : (1 ≤ c.min-narrow.result) × (c.min-narrow.result ≤ 15) = (let k = c.requires.0.some _ c.loop-j-test.true in
    let m = c.requires.0.few _ c.loop-j-test.true in
    omega (arith, c.min-narrow.ensures, c.loop-j.invariant.some, c.loop-j.invariant.few)) in
    (omega (arith, narrowed))

pub overflow_mul-sum-in-loop-j : goal.overflow_mul-sum-in-loop-j
unfolding number_at
overflow_mul-sum-in-loop-j c =
    let narrowed : (1 ≤ c.min-narrow.result) × (c.min-narrow.result ≤ 15) = (let k = c.requires.0.some _ c.loop-j-test.true in
    let m = c.requires.0.few _ c.loop-j-test.true in
    omega (arith, c.min-narrow.ensures, c.loop-j.invariant.some, c.loop-j.invariant.few)) in
    let passed : c.loop-j.lines ≤ 14 = omega (arith, c.loop-j.invariant.from, c.loop-j-test.true, c.requires.0.rows-most) in
    (omega (arith, share-fits _ _ (narrowed).1 (passed)))

pub overflow_add-sum-in-loop-j : goal.overflow_add-sum-in-loop-j
unfolding number_at
overflow_add-sum-in-loop-j c =
    let narrowed : (1 ≤ c.min-narrow.result) × (c.min-narrow.result ≤ 15) = (let k = c.requires.0.some _ c.loop-j-test.true in
    let m = c.requires.0.few _ c.loop-j-test.true in
    omega (arith, c.min-narrow.ensures, c.loop-j.invariant.some, c.loop-j.invariant.few)) in
    let passed : c.loop-j.lines ≤ 14 = omega (arith, c.loop-j.invariant.from, c.loop-j-test.true, c.requires.0.rows-most) in
    (omega (arith, share-fits _ _ (narrowed).1 (passed), c.loop-j.invariant.small, passed))

pub overflow_add-lines : goal.overflow_add-lines
overflow_add-lines c =
    let passed : c.loop-j.lines ≤ 14 = omega (arith, c.loop-j.invariant.from, c.loop-j-test.true, c.requires.0.rows-most) in
    omega (arith, passed)

pub loop-j-preserved : goal.loop-j-preserved
unfolding cell_at number_at
loop-j-preserved c = (climbing_more _ _ c.loop-j.invariant c.requires.0.rows-most c.loop-j-test.true c.if-cells-first.false refl refl (c.requires.0.some _ c.loop-j-test.true) (c.requires.0.few _ c.loop-j-test.true) c.min-narrow.ensures)

pub returns : goal.returns
unfolding cell_at number_at
returns c = (climbing_end _ _ c.loop-j.invariant c.requires.0.rows-most c.loop-j-test.false)
