-- `Rule::charge` meets its contract. Assumes nothing.
use native.Mathlib.Omega.{arith}
use native.Mathlib.Nat.{mul-le-mul}
use borrow.Author.Rules.{rules}
use Rattle.rule.specs.Charge.{charge_of}
use Rattle.rule.proofs.Rule.charge.Goals as goal

pub overflow_mul-result : goal.overflow_mul-result
overflow_mul-result c = omega (arith, mul-le-mul c.requires.1 c.requires.0)

pub overflow_add-result : goal.overflow_add-result
overflow_add-result c = omega (arith, mul-le-mul c.requires.1 c.requires.0)

pub returns : goal.returns
unfolding charge_of
returns c = search rules
