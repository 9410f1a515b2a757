-- `fracture::fracture_default` meets its contract: the default preset is known. Assumes nothing.
use mathlib.Core.Path.{◌∙◌}
use Rattle.fracture.proofs.Settled.{preset_range, preset_outcome, preset_known}
use Rattle.fracture.proofs.fracture_default.Goals as goal

pub fracture_by-requires : goal.fracture_by-requires
fracture_by-requires c = preset_range c.in_ok-rule.ensures.settled

pub returns : goal.returns
returns c = record { settled = c.fracture_by.ensures.settled ∙ preset_outcome c.in_ok-rule.ensures.settled _ _ _ }

pub returns-in_err-rule : goal.returns-in_err-rule
returns-in_err-rule c = absurd (preset_known c.in_err-rule.field-0.0 c.in_err-rule.ensures.settled)
