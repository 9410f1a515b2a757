-- `lowering::weighing::take_five` meets its contract. Assumes nothing.
use mathlib.Core.Path.{◌∙◌}
use native.Mathlib.Omega.{arith}
use Rattle.lowering.proofs.Wheels.{five_lowers}
use Rattle.lowering.proofs.weighing.take_five.Goals as goal

pub overflow_add-b : goal.overflow_add-b
overflow_add-b c = record { fits = omega (arith, c.requires.1.0, c.ranges) }

pub overflow_add-b-2 : goal.overflow_add-b-2
overflow_add-b-2 c = record { fits = omega (arith, c.requires.1.0, c.ranges) }

pub overflow_add-b-3 : goal.overflow_add-b-3
overflow_add-b-3 c = record { fits = omega (arith, c.requires.1.0, c.ranges) }

pub take-requires : goal.take-requires
take-requires c = (c.requires.0, (record { bk = omega arith; km = omega arith; md = omega arith; dy = c.requires.1.0 }, c.take_four.ensures.long ∙ c.requires.1.1))

pub overflow_add-b-4 : goal.overflow_add-b-4
overflow_add-b-4 c = record { fits = omega (arith, c.requires.1.0, c.ranges) }

pub overflow_add-b-5 : goal.overflow_add-b-5
overflow_add-b-5 c = record { fits = omega (arith, c.requires.1.0, c.ranges) }

pub overflow_add-b-6 : goal.overflow_add-b-6
overflow_add-b-6 c = record { fits = omega (arith, c.requires.1.0, c.ranges) }

pub take-requires-2 : goal.take-requires-2
take-requires-2 c = (c.requires.0, (record { bk = omega arith; km = omega arith; md = omega arith; dy = c.requires.1.0 }, c.take.ensures.long ∙ c.take_four.ensures.long ∙ c.requires.1.1))

pub overflow_add-b-7 : goal.overflow_add-b-7
overflow_add-b-7 c = record { fits = omega (arith, c.requires.1.0, c.ranges) }

pub overflow_add-b-8 : goal.overflow_add-b-8
overflow_add-b-8 c = record { fits = omega (arith, c.requires.1.0, c.ranges) }

pub overflow_add-b-9 : goal.overflow_add-b-9
overflow_add-b-9 c = record { fits = omega (arith, c.requires.1.0, c.ranges) }

pub take-requires-3 : goal.take-requires-3
take-requires-3 c = (c.requires.0, (record { bk = omega arith; km = omega arith; md = omega arith; dy = c.requires.1.0 }, c.take-2.ensures.long ∙ c.take.ensures.long ∙ c.take_four.ensures.long ∙ c.requires.1.1))

pub overflow_add-b-10 : goal.overflow_add-b-10
overflow_add-b-10 c = record { fits = omega (arith, c.requires.1.0, c.ranges) }

pub overflow_add-b-11 : goal.overflow_add-b-11
overflow_add-b-11 c = record { fits = omega (arith, c.requires.1.0, c.ranges) }

pub overflow_add-b-12 : goal.overflow_add-b-12
overflow_add-b-12 c = record { fits = omega (arith, c.requires.1.0, c.ranges) }

pub take-requires-4 : goal.take-requires-4
take-requires-4 c = (c.requires.0, (record { bk = omega arith; km = omega arith; md = omega arith; dy = c.requires.1.0 }, c.take-3.ensures.long ∙ c.take-2.ensures.long ∙ c.take.ensures.long ∙ c.take_four.ensures.long ∙ c.requires.1.1))

pub overflow_add-b-13 : goal.overflow_add-b-13
overflow_add-b-13 c = record { fits = omega (arith, c.requires.1.0, c.ranges) }

pub overflow_add-b-14 : goal.overflow_add-b-14
overflow_add-b-14 c = record { fits = omega (arith, c.requires.1.0, c.ranges) }

pub overflow_add-b-15 : goal.overflow_add-b-15
overflow_add-b-15 c = record { fits = omega (arith, c.requires.1.0, c.ranges) }

pub take-requires-5 : goal.take-requires-5
take-requires-5 c = (c.requires.0, (record { bk = omega arith; km = omega arith; md = omega arith; dy = c.requires.1.0 }, c.take-4.ensures.long ∙ c.take-3.ensures.long ∙ c.take-2.ensures.long ∙ c.take.ensures.long ∙ c.take_four.ensures.long ∙ c.requires.1.1))

pub overflow_add-b-16 : goal.overflow_add-b-16
overflow_add-b-16 c = record { fits = omega (arith, c.requires.1.0, c.ranges) }

pub overflow_add-b-17 : goal.overflow_add-b-17
overflow_add-b-17 c = record { fits = omega (arith, c.requires.1.0, c.ranges) }

pub overflow_add-b-18 : goal.overflow_add-b-18
overflow_add-b-18 c = record { fits = omega (arith, c.requires.1.0, c.ranges) }

pub take-requires-6 : goal.take-requires-6
take-requires-6 c = (c.requires.0, (record { bk = omega arith; km = omega arith; md = omega arith; dy = c.requires.1.0 }, c.take-5.ensures.long ∙ c.take-4.ensures.long ∙ c.take-3.ensures.long ∙ c.take-2.ensures.long ∙ c.take.ensures.long ∙ c.take_four.ensures.long ∙ c.requires.1.1))

pub returns : goal.returns
returns c = five_lowers _ _ _ _ c.take_four.ensures c.take.ensures c.take-2.ensures c.take-3.ensures c.take-4.ensures c.take-5.ensures c.take-6.ensures
