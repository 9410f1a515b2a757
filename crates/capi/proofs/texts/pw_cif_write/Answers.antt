-- `texts::pw_cif_write` meets its contract: it lends on what the writer tells. Assumes nothing.
use Rattle.refusal.proofs.Refusals.{told_as}
use Rattle.capi.proofs.Lent.{renumbered}
use Rattle.cif.specs.Calls.{write_told}
use Rattle.capi.specs.TextLent.{text_lent}
use Rattle.capi.proofs.texts.pw_cif_write.Goals as goal

pub returns-in-Ok : goal.returns-in-Ok
returns-in-Ok c = record { settled = told_as (λ t. write_told t c.write.new.out) c.in-Ok.is c.write.ensures }

pub returns-in-Err : goal.returns-in-Err
returns-in-Err c =
    record {
      settled = renumbered (λ n. text_lent n 0 c.write.new.out) c.from.ensures (told_as (λ t. write_told t c.write.new.out) c.in-Err.is c.write.ensures);
    }
