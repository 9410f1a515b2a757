-- `lend` meets its contract: it lends on what each answer of a fracture tells. Assumes nothing.
use mathlib.Core.Path.{◌∙◌, sym, ap}
use Rattle.fracture.specs.Told.{told}
use Rattle.capi.specs.Lent.{fracture_lent}
use Rattle.capi.proofs.lend.Goals as goal

pub returns-in-Ok : goal.returns-in-Ok
unfolding told
returns-in-Ok c = λ table list. sym (ap (λ a. told a table list) c.in-Ok.is)

pub returns-in-Err : goal.returns-in-Err
unfolding told
returns-in-Err c = λ table list. ap (λ n. fracture_lent n c.in-Err.denial.needed 0 0 0 table list) c.from.ensures ∙ sym (ap (λ a. told a table list) c.in-Err.is)
