-- `indexes::lend_change` meets its contract: it lends on what each answer of a change tells. Assumes nothing.
use mathlib.Core.Path.{sym, ap}
use Rattle.index.specs.Index.{change_told}
use Rattle.capi.specs.IndexLent.{change_lent}
use Rattle.capi.proofs.Lent.{refused_lent}
use Rattle.capi.proofs.indexes.lend_change.Goals as goal

pub returns-in-Ok : goal.returns-in-Ok
returns-in-Ok c = λ index out. sym (ap (λ a. change_told a index out) c.in-Ok.is)

pub returns-in-Err : goal.returns-in-Err
returns-in-Err c =
    λ index out. refused_lent (λ n p. change_lent n 0 0 p index out) c.refuse.ensures.number c.refuse.ensures.place (sym (ap (λ u. change_told u index out) c.in-Err.is))
