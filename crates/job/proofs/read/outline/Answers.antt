-- `outline` meets its contract: by how many rings it has, and then by the rings. Assumes nothing.
use mathlib.Core.Path.{ap}
use Rattle.number.specs.Reading.{past}
use Rattle.number.proofs.Number.{passed}
use Rattle.job.specs.Steps.{past_told}
use Rattle.job.proofs.Job.{outline-fault, outline-rings, outline-past}
use Rattle.job.proofs.read.outline.Goals as goal

pub returns-in_err-count : goal.returns-in_err-count
returns-in_err-count c = passed past_told c.from_residual.ensures.1 (ap past (outline-fault _ _ c.in_err-count.ensures))

pub returns-in_err-rings : goal.returns-in_err-rings
returns-in_err-rings c =
    passed past_told c.from_residual-in_err-rings.ensures.1 (ap past (outline-rings _ _ c.in_ok-count.ensures c.in_err-rings.ensures))

pub returns : goal.returns
returns c = outline-past _ _ c.in_ok-count.ensures c.in_ok-rings.ensures
