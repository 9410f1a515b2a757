-- `pw_job_check` meets its contract: it lends on what the check tells. Assumes nothing.
use Rattle.capi.proofs.Lent.{refused_lent}
use Rattle.capi.specs.Lent.{check_lent}
use Rattle.capi.proofs.pw_job_check.Goals as goal

pub returns-in-Ok : goal.returns-in-Ok
returns-in-Ok c = record { settled = c.in-Ok.ensures.settled }

pub returns-in-Err : goal.returns-in-Err
returns-in-Err c = record { settled = refused_lent (λ n p. check_lent n 0 0 0 p) c.refuse.ensures.number c.refuse.ensures.place c.in-Err.ensures.settled }
