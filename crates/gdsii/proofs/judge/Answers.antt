-- `judge` meets its contract: what the drawing answers. Assumes nothing.
use Rattle.number.proofs.Number.{passed}
use Rattle.outline.specs.Promise.{sheet, answer_no}
use Rattle.gdsii.proofs.judge.Goals as goal

pub returns-in_err-draw : goal.returns-in_err-draw
unfolding sheet
returns-in_err-draw c = passed answer_no c.from_residual.ensures.1 c.in_err-draw.ensures.told

pub returns : goal.returns
unfolding sheet
returns c = c.in_ok-draw.ensures.told
