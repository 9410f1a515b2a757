-- `sizes` meets its contract: the bytes counted and those of the numbers still to come are all. Assumes nothing.
use Prim.Native.Nat.{ℕ}
use mathlib.Core.Path.{ap}
use mathlib.Core.List.{List}
use native.Mathlib.Omega.{arith}
use lib.ListN.{length}
use Rattle.job.proofs.Writing.{sizes_more, coordinates-done}
use Rattle.job.proofs.write.sizes.Goals as goal

pub loop-x-preserved : goal.loop-x-preserved
loop-x-preserved c =
    let numbers : List ℕ = c.args.numbers.now in (
      sizes_more numbers c.loop-x.x-index _ _ _ _ c.from.ensures c.size-total.ensures.0 c.loop-x.invariant.0 (omega arith),
      omega arith,
    )

pub returns : goal.returns
returns c = omega (arith, ap length (coordinates-done c.args.numbers.now c.loop-x.x-index (omega arith)))
