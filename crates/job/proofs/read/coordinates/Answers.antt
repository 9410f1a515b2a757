-- `coordinates` meets its contract: what is left to read from here gives what the whole gives. Assumes nothing.
use mathlib.Core.Path.{◌∙◌, sym, ap}
use native.Mathlib.Omega.{arith}
use Rattle.number.specs.Reading.{past}
use Rattle.number.proofs.Number.{passed}
use Rattle.number.proofs.Reading.{many-more-left, many-stop-left, many-done-left}
use Rattle.job.specs.Job.{coordinates}
use Rattle.job.specs.Steps.{past_told}
use Rattle.job.proofs.read.coordinates.Goals as goal

pub returns-in_err-c : goal.returns-in_err-c
unfolding coordinates
returns-in_err-c c =
    passed past_told c.from_residual.ensures.1
    (sym (c.loop.invariant ∙ many-stop-left _ _ _ _ (omega arith) (ap past c.in_err-c.ensures)))

pub loop-preserved : goal.loop-preserved
unfolding coordinates
loop-preserved c = c.loop.invariant ∙ many-more-left _ _ _ _ (omega arith) (ap past c.in_ok-c.ensures)

pub returns : goal.returns
unfolding coordinates
returns c = sym (c.loop.invariant ∙ many-done-left _ _ _ _ (omega arith))
