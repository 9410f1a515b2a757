-- `whole` meets its contract: each exit is a case of the definition's `job`. Assumes nothing.
use native.Mathlib.Omega.{arith}
use Rattle.number.proofs.Number.{passed}
use Rattle.job.specs.Steps.{head_told}
use Rattle.job.proofs.Job.{job-long, job-header, job-outlines, job_extra, job_read}
use Rattle.job.proofs.Calls.{whole-fault, whole-read}
use Rattle.job.proofs.read.whole.Goals as goal

pub returns-then-job-gt-MOST_BYTES : goal.returns-then-job-gt-MOST_BYTES
returns-then-job-gt-MOST_BYTES c = rw c.from.ensures (whole-fault _ (job-long _ (omega arith)))

pub returns-in_err-head : goal.returns-in_err-head
returns-in_err-head c = passed head_told c.from_residual.ensures.1 (whole-fault _ (job-header _ (omega arith) c.in_err-head.ensures))

pub returns-in_err-end : goal.returns-in_err-end
returns-in_err-end c =
    passed head_told c.from_residual-in_err-end.ensures.1
    (whole-fault _ (job-outlines _ (omega arith) c.in_ok-head.ensures c.in_err-end.ensures))

pub returns-then-at-job : goal.returns-then-at-job
returns-then-at-job c =
    rw c.at.ensures (whole-fault _ (job_extra _ (omega arith) c.in_ok-head.ensures c.in_ok-end.ensures (omega arith)))

pub returns : goal.returns
returns c =
    let head = c.in_ok-head.ensures in
    whole-read _ (job_read _ (omega arith) head c.in_ok-end.ensures (omega arith)).1 head
