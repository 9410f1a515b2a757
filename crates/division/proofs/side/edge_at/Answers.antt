-- `division::side::edge_at` meets its contract. Assumes nothing.
use native.Mathlib.Omega.{arith}
use Rattle.division.specs.Steps.{edge}
use Rattle.division.proofs.side.edge_at.Goals as goal

pub overflow_mul-result : goal.overflow_mul-result
unfolding edge
overflow_mul-result c = record { fits = omega arith }

pub overflow_add-result : goal.overflow_add-result
unfolding edge
overflow_add-result c = record { fits = omega (arith, c.min.ensures) }

pub overflow_add-result-2 : goal.overflow_add-result-2
unfolding edge
overflow_add-result-2 c = record { fits = omega (arith, c.min.ensures) }

pub overflow_cast-result : goal.overflow_cast-result
unfolding edge
overflow_cast-result c = omega (arith, c.min.ensures)

pub returns : goal.returns
unfolding edge
returns c = omega (arith, c.min.ensures)
