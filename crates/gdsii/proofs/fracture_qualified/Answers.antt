-- `fracture_qualified` meets its contract: the rule is that of preset 0, which is a row. Assumes nothing.
use mathlib.Core.Path.{◌∙◌}
use Rattle.gdsii.proofs.Answers.{qualified-by, qualified-known}
use Rattle.gdsii.proofs.fracture_qualified.Goals as goal

pub returns-in_err-rule : goal.returns-in_err-rule
returns-in_err-rule c = absurd (qualified-known c.in_err-rule.field-0.0 c.in_err-rule.ensures.settled)

pub returns : goal.returns
returns c = c.fracture.ensures.settled ∙ qualified-by c.in_ok-rule.ensures.settled _ _ _ _
