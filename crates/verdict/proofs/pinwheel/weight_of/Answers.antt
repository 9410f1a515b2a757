-- `verdict::pinwheel::weight_of` meets its contract. Assumes nothing.
use borrow.Author.Rules.{rules}
use Rattle.verdict.specs.Pinwheels.{weight_of}
use Rattle.verdict.proofs.Hunting.{sum_two, sum_three, sum_four, sum_five}
use Rattle.verdict.proofs.pinwheel.weight_of.Goals as goal

pub overflow_add-result : goal.overflow_add-result
overflow_add-result c = record { fits = sum_two _ _ c.requires }

pub overflow_add-result-2 : goal.overflow_add-result-2
overflow_add-result-2 c = record { fits = sum_three _ _ c.requires }

pub overflow_add-result-3 : goal.overflow_add-result-3
overflow_add-result-3 c = record { fits = sum_four _ _ c.requires }

pub overflow_add-result-4 : goal.overflow_add-result-4
overflow_add-result-4 c = record { fits = sum_five _ _ c.requires }

pub returns : goal.returns
unfolding weight_of
returns c = search rules
