-- `header` meets its contract: each exit is a case of the definition's `header`. Assumes nothing.
use Rattle.number.proofs.Number.{passed}
use Rattle.job.specs.Steps.{head_told}
use Rattle.job.proofs.Job.{header-threshold, header-weight, header-count, header_read}
use Rattle.job.proofs.read.header.Goals as goal

pub returns-in_err-threshold : goal.returns-in_err-threshold
returns-in_err-threshold c = passed head_told c.from_residual.ensures.1 (header-threshold _ c.in_err-threshold.ensures)

pub returns-in_err-weight : goal.returns-in_err-weight
returns-in_err-weight c =
    passed head_told c.from_residual-in_err-weight.ensures.1 (header-weight _ c.in_ok-threshold.ensures c.in_err-weight.ensures)

pub returns-in_err-outlines : goal.returns-in_err-outlines
returns-in_err-outlines c =
    passed head_told c.from_residual-in_err-outlines.ensures.1
    (header-count _ c.in_ok-threshold.ensures c.in_ok-weight.ensures c.in_err-outlines.ensures)

pub returns : goal.returns
returns c = header_read _ c.in_ok-threshold.ensures c.in_ok-weight.ensures c.in_ok-outlines.ensures
