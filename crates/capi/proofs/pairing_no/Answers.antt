-- `pairing_no` meets its contract: the number of an answer's refusal, from the one table. Assumes nothing.
use mathlib.Core.Path.{◌∙◌, sym, ap}
use Rattle.capi.specs.Lent.{pairing_no}
use Rattle.capi.proofs.pairing_no.Goals as goal

pub returns-in-Err : goal.returns-in-Err
returns-in-Err c = c.from.ensures ∙ sym (ap pairing_no c.in-Err.is)
