-- `pw_unpack` meets its contract: it lends on what unpacking tells. Assumes nothing.
use Rattle.refusal.proofs.Refusals.{told_as}
use Rattle.capi.proofs.Lent.{refused_lent}
use Rattle.job.specs.Calls.{unpack_told}
use Rattle.capi.specs.Lent.{unpack_lent}
use Rattle.capi.proofs.pw_unpack.Goals as goal

pub returns-in-Ok : goal.returns-in-Ok
returns-in-Ok c = record { settled = told_as (λ t. unpack_told t c.unpack.new.list c.unpack.new.lengths) c.in-Ok.is c.unpack.ensures.settled }

pub returns-in-Err : goal.returns-in-Err
returns-in-Err c =
    record {
      settled = refused_lent (λ n p. unpack_lent n 0 0 p c.unpack.new.list c.unpack.new.lengths) c.refuse.ensures.number c.refuse.ensures.place
          (told_as (λ t. unpack_told t c.unpack.new.list c.unpack.new.lengths) c.in-Err.is c.unpack.ensures.settled);
    }
