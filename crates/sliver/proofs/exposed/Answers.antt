-- `sliver::exposed` meets its contract. The loop's invariant: the sum is the exposed length of the stretches passed.
-- Assumes nothing.
use native.Mathlib.Omega.{arith}
use Rattle.sliver.proofs.Sides.{exposed-none, exposed-more, exposed-all}
use Rattle.sliver.proofs.exposed.Goals as goal

pub loop-k-init : goal.loop-k-init
loop-k-init c = (omega arith, omega arith, omega arith, exposed-none _ _ _ _ _ _)

pub overflow_mul-within : goal.overflow_mul-within
overflow_mul-within c = let n = c.requires.near c.loop-k.k c.loop-k-test.true in omega arith

pub overflow_add-within : goal.overflow_add-within
overflow_add-within c = let n = c.requires.near c.loop-k.k c.loop-k-test.true in omega arith

pub bounds-cells-near : goal.bounds-cells-near
bounds-cells-near c = let n = c.requires.near c.loop-k.k c.loop-k-test.true in omega arith

pub overflow_mul-across : goal.overflow_mul-across
overflow_mul-across c = let n = c.requires.far c.loop-k.k c.loop-k-test.true in omega arith

pub overflow_add-across : goal.overflow_add-across
overflow_add-across c = let n = c.requires.far c.loop-k.k c.loop-k-test.true in omega arith

pub bounds-cells-far : goal.bounds-cells-far
bounds-cells-far c =
    let n = c.requires.far c.loop-k.k c.loop-k-test.true in
    omega arith

pub stretch-sum-requires : goal.stretch-sum-requires
stretch-sum-requires c =
    omega (
      arith,
      c.place_of-low.ensures,
      c.place_of-high.ensures,
      c.requires.rise _ c.loop-k-test.true,
    )

pub loop-k-preserved : goal.loop-k-preserved
loop-k-preserved c = (
  omega arith,
  omega arith,
  omega arith,
  exposed-more _ _ _ _ _ _ _ (omega arith) c.loop-k.invariant.3 c.place_of-low.ensures
      c.place_of-high.ensures
      c.stretch-sum.ensures.0,
)

pub returns : goal.returns
returns c = (exposed-all _ _ _ _ (omega arith) (omega arith) c.loop-k.invariant.3, omega arith)
