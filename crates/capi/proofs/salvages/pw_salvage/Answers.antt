-- `salvages::pw_salvage` meets its contract: it lends on what saving tells. Assumes nothing.
use Rattle.refusal.proofs.Refusals.{told_as}
use Rattle.saving.specs.Salvage.{save_told}
use Rattle.capi.specs.SaveLent.{save_lent}
use Rattle.capi.proofs.Lent.{refused_lent}
use Rattle.capi.proofs.salvages.pw_salvage.Goals as goal

pub returns-in-Ok : goal.returns-in-Ok
returns-in-Ok c = record { settled = told_as (λ u. save_told u c.save.new.out) c.in-Ok.is c.save.ensures.settled }

pub returns-in-Err : goal.returns-in-Err
returns-in-Err c =
    record {
      settled = refused_lent (λ n p. save_lent n 0 0 0 0 p c.save.new.out) c.refuse.ensures.number c.refuse.ensures.place
          (told_as (λ u. save_told u c.save.new.out) c.in-Err.is c.save.ensures.settled);
    }
