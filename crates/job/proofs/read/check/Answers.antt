-- `check` meets its contract: what `whole` tells, without the place of the first outline. Assumes nothing.
use Rattle.number.proofs.Number.{passed}
use Rattle.job.specs.Calls.{check_told}
use Rattle.job.proofs.Calls.{checked-fault, checked-read}
use Rattle.job.proofs.read.check.Goals as goal

pub returns-in_err-header : goal.returns-in_err-header
returns-in_err-header c = record { settled = passed check_told c.from_residual.ensures.1 (checked-fault _ c.in_err-header.ensures) }

pub returns : goal.returns
returns c = record { settled = checked-read _ c.in_ok-header.ensures }
