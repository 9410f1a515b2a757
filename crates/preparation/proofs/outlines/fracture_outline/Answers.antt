-- `fracture_outline` fractures the figure that the job says: the two lists are handed on as far as the figure goes. Assumes nothing.
use mathlib.Core.Path.{◌∙◌, sym, ap}
use Rattle.fracture.specs.Told.{told}
use Rattle.preparation.proofs.Fracturing.{outcome_of}
use Rattle.preparation.proofs.outlines.fracture_outline.Goals as goal

pub returns-in-Err : goal.returns-in-Err
returns-in-Err c =
    sym (ap (λ a. told a c.fracture-answer.new.table c.fracture-answer.new.list) c.in-Err.is)
    ∙ outcome_of _ _ _ _ _ _ _ c.fracture-answer.ensures.settled (c.front-outline.ensures ∙ c.unpack_outline-unpacked.ensures.numbers) (c.front-rings.ensures ∙ c.unpack_outline-unpacked.ensures.lengths)

pub returns-in_default : goal.returns-in_default
returns-in_default c = outcome_of _ _ _ _ _ _ _ c.fracture-answer.ensures.settled (c.front-outline.ensures ∙ c.unpack_outline-unpacked.ensures.numbers) (c.front-rings.ensures ∙ c.unpack_outline-unpacked.ensures.lengths)
