-- `division::deliver` meets its contract. Assumes nothing.
use native.Mathlib.Omega.{arith}
use native.Mathlib.Nat.{mul-le-mul}
use Rattle.division.proofs.Settled.{told-short, told-listed}
use Rattle.division.proofs.deliver.Goals as goal

pub returns-then-list-parts : goal.returns-then-list-parts
returns-then-list-parts c table = told-short _ _ _ _ _ _ _ _ c.count_parts-parts.ensures.0 c.if-list-parts.true table

pub overflow_mul-result-2 : goal.overflow_mul-result-2
overflow_mul-result-2 c = record { fits = omega (arith, mul-le-mul c.requires.1.0 c.requires.1.1.0) }

pub overflow_add-result : goal.overflow_add-result
overflow_add-result c = record { fits = omega (arith, mul-le-mul c.requires.1.0 c.requires.1.1.0, c.count_parts-parts.ensures.1) }

pub returns : goal.returns
returns c table = told-listed _ _ _ _ _ _ _ _ c.count_parts-parts.ensures.0 c.if-list-parts.false c.write_all.ensures table
