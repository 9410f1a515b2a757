-- `count::flat::of_one` meets its contract. Assumes nothing.
use native.Mathlib.Omega.{arith}
use Rattle.count.proofs.Singles.{one-ends}
use Rattle.count.proofs.flat.of_one.Goals as goal

pub overflow_mul-result : goal.overflow_mul-result
overflow_mul-result c = omega (arith, (one-ends _ c.requires.0 c.requires.1).1)

pub returns : goal.returns
returns c = one-ends _ c.requires.0 c.requires.1
