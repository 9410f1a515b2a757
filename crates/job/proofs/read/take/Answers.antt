-- `take` meets its contract: the job's fault, or 13, or the part that `locate` finds, which is outline k's and lies where outline k
-- stands. Assumes nothing.
use mathlib.Core.Path.{refl}
use native.Mathlib.Omega.{arith}
use Rattle.number.proofs.Number.{passed}
use Rattle.job.specs.Calls.{take_told}
use Rattle.job.proofs.Calls.{located-within, taken-fault, taken_missing, taken_never, taken-part}
use Rattle.job.proofs.Placing.{lies, placed-part}
use Rattle.job.proofs.read.take.Goals as goal

pub returns-in_err-head-clause-settled : goal.returns-in_err-head-clause-settled
returns-in_err-head-clause-settled c = passed take_told c.from_residual.ensures.1 (taken-fault _ _ c.in_err-head.ensures refl)

pub returns-then-count-k-clause-settled : goal.returns-then-count-k-clause-settled
returns-then-count-k-clause-settled c = rw c.from.ensures (taken_missing _ _ c.in_ok-head.ensures (omega arith) refl)

pub returns-in_err-part-clause-settled : goal.returns-in_err-part-clause-settled
returns-in_err-part-clause-settled c = absurd (taken_never _ _ c.in_ok-head.ensures (omega arith) c.in_err-part.ensures)

pub slice_bounds-result-count : goal.slice_bounds-result-count
slice_bounds-result-count c = omega (arith, located-within _ _ _ c.in_ok-part.ensures)

pub slice_bounds-result-start : goal.slice_bounds-result-start
slice_bounds-result-start c = omega (arith, located-within _ _ _ c.in_ok-part.ensures)

pub slice_bounds-result-end : goal.slice_bounds-result-end
slice_bounds-result-end c = omega (arith, located-within _ _ _ c.in_ok-part.ensures)

pub returns-clause-settled : goal.returns-clause-settled
returns-clause-settled c = taken-part _ _ c.in_ok-head.ensures (omega arith) c.in_ok-part.ensures

pub returns-clause-placed : goal.returns-clause-placed
returns-clause-placed c = lies _ _ _ _ _ (placed-part _ _ c.in_ok-head.ensures (omega arith) c.in_ok-part.ensures)
