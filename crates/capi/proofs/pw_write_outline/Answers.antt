-- `pw_write_outline` meets its contract: it lends on what the writer tells. Assumes nothing.
use Rattle.refusal.proofs.Refusals.{told_as}
use Rattle.capi.proofs.Lent.{renumbered}
use Rattle.job.specs.Calls.{write_told}
use Rattle.capi.specs.Lent.{write_lent}
use Rattle.capi.proofs.pw_write_outline.Goals as goal

pub returns-in-Ok : goal.returns-in-Ok
returns-in-Ok c = record { settled = told_as (λ u. write_told u c.write_outline.new.out) c.in-Ok.is c.write_outline.ensures.settled }

pub returns-in-Err : goal.returns-in-Err
returns-in-Err c = record { settled = renumbered (λ n. write_lent n 0 c.write_outline.new.out) c.from.ensures (told_as (λ u. write_told u c.write_outline.new.out) c.in-Err.is c.write_outline.ensures.settled) }
