-- `shot::empty` meets its contract. Assumes nothing.
use native.Mathlib.Omega.{arith}
use Rattle.shot.proofs.Bad.{empty-narrow, empty-wide}
use Rattle.shot.proofs.empty.Goals as goal

pub returns-then-x_high-x_low : goal.returns-then-x_high-x_low
returns-then-x_high-x_low c = empty-narrow _ (omega arith)

pub returns-else-x_high-x_low : goal.returns-else-x_high-x_low
returns-else-x_high-x_low c = empty-wide _ (omega arith)
