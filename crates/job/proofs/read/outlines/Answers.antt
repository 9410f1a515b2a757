-- `outlines` meets its contract: what is left to read from here gives what the whole gives. Assumes nothing.
use mathlib.Core.Path.{◌∙◌, sym}
use native.Mathlib.Omega.{arith}
use Rattle.number.proofs.Number.{passed}
use Rattle.number.proofs.Reading.{many-more-left, many-stop-left, many-done-left}
use Rattle.job.specs.Job.{outlines}
use Rattle.job.specs.Steps.{past_told}
use Rattle.job.proofs.Job.{part-past}
use Rattle.job.proofs.read.outlines.Goals as goal

pub returns-in_err-c : goal.returns-in_err-c
unfolding outlines
returns-in_err-c c =
    passed past_told c.from_residual.ensures.1
    (sym (c.loop.invariant ∙ many-stop-left _ _ _ _ (omega arith) (c.in_err-c.ensures ∙ sym (part-past _ _))))

pub loop-preserved : goal.loop-preserved
unfolding outlines
loop-preserved c = c.loop.invariant ∙ many-more-left _ _ _ _ (omega arith) (c.in_ok-c.ensures ∙ sym (part-past _ _))

pub returns : goal.returns
unfolding outlines
returns c = sym (c.loop.invariant ∙ many-done-left _ _ _ _ (omega arith))
