-- `sliver::both_sides` meets its contract. Assumes nothing.
use Prim.Native.Nat.{◌+◌, ◌-◌, ◌%◌}
use mathlib.Core.Path.{ap₂}
use native.Mathlib.Omega.{arith}
use borrow.Author.Rules.{rules}
use Rattle.sliver.specs.Sides.{both_in}
use Rattle.sliver.proofs.Lengths.{lies-low, lies-high}
use Rattle.sliver.proofs.both_sides.Goals as goal

pub overflow_mul-across : goal.overflow_mul-across
overflow_mul-across c = omega (arith, c.requires.cell c.args.band.low.0 0 (omega (arith, c.requires)) (omega arith))

pub overflow_mul-across-2 : goal.overflow_mul-across-2
overflow_mul-across-2 c = omega (arith, c.requires.cell ((c.args.band.low.0 + 15) % 16) 0 (omega arith) (omega arith))

pub exposed-low_side-requires : goal.exposed-low_side-requires
exposed-low_side-requires c = lies-low _ _ _ c.requires

pub overflow_mul-across-3 : goal.overflow_mul-across-3
overflow_mul-across-3 c = omega (arith, c.requires.cell (c.args.band.high.0 - 1) 0 (omega (arith, c.requires)) (omega arith))

pub overflow_mul-across-4 : goal.overflow_mul-across-4
overflow_mul-across-4 c = omega (arith, c.requires.cell c.args.band.high.0 0 (omega (arith, c.requires)) (omega arith))

pub exposed-high_side-requires : goal.exposed-high_side-requires
exposed-high_side-requires c = lies-high _ _ _ c.requires

pub returns : goal.returns
unfolding both_in
returns c = (ap₂ ◌+◌ c.exposed-low_side.ensures.0 c.exposed-high_side.ensures.0, search rules)
