-- `locate` meets its contract: past k outlines, and then past one more. Assumes nothing.
use Rattle.number.proofs.Number.{passed}
use Rattle.job.specs.Steps.{located_told}
use Rattle.job.proofs.Calls.{located-before, located-fault, located-part}
use Rattle.job.proofs.read.locate.Goals as goal

pub returns-in_err-start : goal.returns-in_err-start
returns-in_err-start c = passed located_told c.from_residual.ensures.1 (located-before _ _ _ c.in_err-start.ensures)

pub returns-in_err-end : goal.returns-in_err-end
returns-in_err-end c =
    passed located_told c.from_residual-in_err-end.ensures.1 (located-fault _ _ _ c.in_ok-start.ensures c.in_err-end.ensures)

pub returns : goal.returns
returns c = located-part _ _ _ c.in_ok-start.ensures c.in_ok-end.ensures
