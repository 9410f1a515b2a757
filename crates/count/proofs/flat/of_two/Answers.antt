-- `count::flat::of_two` meets its contract. Assumes nothing.
use Prim.Native.Nat.{◌+◌, ◌*◌, ◌≤◌}
use native.Mathlib.Omega.{arith}
use Rattle.count.proofs.Singles.{product, two-apart, two-alike}
use Rattle.count.proofs.flat.of_two.Goals as goal

pub returns-then-high-low : goal.returns-then-high-low
returns-then-high-low c = (two-apart _ _ _ _ _ c.if-high-low.true (omega (arith, c.of_one.ensures.0, c.of_one-2.ensures.0)), omega (arith, c.of_one.ensures.1, c.of_one-2.ensures.1))

pub overflow_mul-result : goal.overflow_mul-result
overflow_mul-result c =
    let both : c.min-both.result * (c.min-both.result + 1) ≤ 240 = (product _ _ 16 (omega (arith, c.min-both.ensures, c.requires.0.1)) (omega (arith, c.min-both.ensures, c.requires.0.1))) in
    omega (arith, both)

pub overflow_add-result-2 : goal.overflow_add-result-2
overflow_add-result-2 c =
    let both : c.min-both.result * (c.min-both.result + 1) ≤ 240 = (product _ _ 16 (omega (arith, c.min-both.ensures, c.requires.0.1)) (omega (arith, c.min-both.ensures, c.requires.0.1))) in
    omega (arith, both, c.of_one.ensures.1, c.of_one-2.ensures.1)

pub returns : goal.returns
returns c =
    let both : c.min-both.result * (c.min-both.result + 1) ≤ 240 = (product _ _ 16 (omega (arith, c.min-both.ensures, c.requires.0.1)) (omega (arith, c.min-both.ensures, c.requires.0.1))) in
    (two-alike _ _ _ _ _ _ c.if-high-low.false (omega (arith, c.of_one.ensures.0, c.of_one-2.ensures.0)) c.min-both.ensures, omega (arith, c.of_one.ensures.1, c.of_one-2.ensures.1, both))
