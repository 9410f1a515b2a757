-- `count::flat::of_three` meets its contract. Assumes nothing.
use Prim.Native.Nat.{◌+◌, ◌*◌, ◌≤◌}
use native.Mathlib.Omega.{arith}
use Rattle.count.proofs.Singles.{product, three-apart, three-lower, three-alike}
use Rattle.count.proofs.flat.of_three.Goals as goal

pub returns-then-middle-low : goal.returns-then-middle-low
returns-then-middle-low c = (three-apart _ _ _ _ _ _ _ c.if-middle-low.true (omega (arith, c.of_one.ensures.0, c.of_two.ensures.0)), omega (arith, c.of_one.ensures.1, c.of_two.ensures.1))

pub overflow_mul-lower : goal.overflow_mul-lower
overflow_mul-lower c =
    let lower : c.min-two.result * (c.min-two.result + 1) ≤ 240 = (product _ _ 16 (omega (arith, c.min-two.ensures, c.requires.0.1)) (omega (arith, c.min-two.ensures, c.requires.0.1))) in
    omega (arith, lower)

pub overflow_add-lower-2 : goal.overflow_add-lower-2
overflow_add-lower-2 c =
    let lower : c.min-two.result * (c.min-two.result + 1) ≤ 240 = (product _ _ 16 (omega (arith, c.min-two.ensures, c.requires.0.1)) (omega (arith, c.min-two.ensures, c.requires.0.1))) in
    omega (arith, lower, c.of_one.ensures.1, c.of_two.ensures.1)

pub returns-then-high-low : goal.returns-then-high-low
returns-then-high-low c =
    let lower : c.min-two.result * (c.min-two.result + 1) ≤ 240 = (product _ _ 16 (omega (arith, c.min-two.ensures, c.requires.0.1)) (omega (arith, c.min-two.ensures, c.requires.0.1))) in (
      three-lower _ _ _ _ _ _ _ _ c.if-middle-low.false c.if-high-low.true (omega (arith, c.of_one.ensures.0, c.of_two.ensures.0)) c.min-two.ensures,
      omega (arith, c.of_one.ensures.1, c.of_two.ensures.1, lower),
    )

pub overflow_mul-result : goal.overflow_mul-result
overflow_mul-result c =
    let all : c.min-three.result * (c.min-three.result + 3) ≤ 270 = (product _ _ 18 (omega (arith, c.min-three.ensures, c.requires.1.1.1)) (omega (arith, c.min-three.ensures, c.requires.1.1.1))) in
    omega (arith, all)

pub overflow_add-result-2 : goal.overflow_add-result-2
overflow_add-result-2 c =
    let lower : c.min-two.result * (c.min-two.result + 1) ≤ 240 = (product _ _ 16 (omega (arith, c.min-two.ensures, c.requires.0.1)) (omega (arith, c.min-two.ensures, c.requires.0.1))) in
    let all : c.min-three.result * (c.min-three.result + 3) ≤ 270 = (product _ _ 18 (omega (arith, c.min-three.ensures, c.requires.1.1.1)) (omega (arith, c.min-three.ensures, c.requires.1.1.1))) in
    (omega (arith, lower, all, c.of_one.ensures.1, c.of_two.ensures.1))

pub returns : goal.returns
returns c =
    let lower : c.min-two.result * (c.min-two.result + 1) ≤ 240 = (product _ _ 16 (omega (arith, c.min-two.ensures, c.requires.0.1)) (omega (arith, c.min-two.ensures, c.requires.0.1))) in
    let all : c.min-three.result * (c.min-three.result + 3) ≤ 270 = (product _ _ 18 (omega (arith, c.min-three.ensures, c.requires.1.1.1)) (omega (arith, c.min-three.ensures, c.requires.1.1.1))) in (
      three-alike _ _ _ _ _ _ _ _ _ c.if-middle-low.false c.if-high-low.false (omega (arith, c.of_one.ensures.0, c.of_two.ensures.0)) c.min-two.ensures c.min-three.ensures,
      omega (arith, c.of_one.ensures.1, c.of_two.ensures.1, lower, all),
    )
