-- `pick` meets its contract: what `find` tells, as that part of the job's own bytes. Assumes nothing.
use mathlib.Core.Path.{refl}
use native.Mathlib.Omega.{arith}
use Rattle.number.proofs.Number.{passed}
use Rattle.job.specs.Calls.{take_told}
use Rattle.index.proofs.Starts.{picked-fault, picked-part, picked-within, at_part}
use Rattle.index.proofs.picking.pick.Goals as goal

pub returns-in_err-part-clause-settled : goal.returns-in_err-part-clause-settled
returns-in_err-part-clause-settled c = passed take_told c.from_residual.ensures.1 (picked-fault _ _ _ _ c.in_err-part.ensures.settled refl)

pub slice_bounds-result-count : goal.slice_bounds-result-count
slice_bounds-result-count c = omega (arith, picked-within _ _ _ _ c.in_ok-part.ensures.settled)

pub slice_bounds-result-start : goal.slice_bounds-result-start
slice_bounds-result-start c = omega (arith, picked-within _ _ _ _ c.in_ok-part.ensures.settled)

pub slice_bounds-result-end : goal.slice_bounds-result-end
slice_bounds-result-end c = omega (arith, picked-within _ _ _ _ c.in_ok-part.ensures.settled)

pub returns-clause-settled : goal.returns-clause-settled
returns-clause-settled c = picked-part _ _ _ _ c.in_ok-part.ensures.settled

pub returns-clause-placed : goal.returns-clause-placed
returns-clause-placed c = at_part _ _ _ _ c.in_ok-part.ensures.settled _ _
