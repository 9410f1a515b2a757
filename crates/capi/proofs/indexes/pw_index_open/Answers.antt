-- `indexes::pw_index_open` meets its contract: it lends on what opening tells. Assumes nothing.
use Rattle.refusal.proofs.Refusals.{told_as}
use Rattle.index.specs.Index.{open_told}
use Rattle.capi.specs.IndexLent.{open_lent}
use Rattle.capi.proofs.Lent.{refused_lent}
use Rattle.capi.proofs.indexes.pw_index_open.Goals as goal

pub returns-in-Ok : goal.returns-in-Ok
returns-in-Ok c = record { settled = told_as (λ u. open_told u c.open.new.index) c.in-Ok.is c.open.ensures.settled }

pub returns-in-Err : goal.returns-in-Err
returns-in-Err c =
    record {
      settled = refused_lent (λ n p. open_lent n 0 p c.open.new.index) c.refuse.ensures.number c.refuse.ensures.place
          (told_as (λ u. open_told u c.open.new.index) c.in-Err.is c.open.ensures.settled);
    }
