-- `pw_number` meets its contract: it lends on what the number reader tells. Assumes nothing.
use mathlib.Core.Path.{ap}
use Rattle.capi.proofs.Lent.{refused_lent}
use Rattle.capi.specs.Lent.{number_lent, number_said}
use Rattle.capi.proofs.pw_number.Goals as goal

pub returns-in-Ok : goal.returns-in-Ok
returns-in-Ok c = record { settled = ap number_said c.in-Ok.ensures.settled }

pub returns-in-Err : goal.returns-in-Err
returns-in-Err c =
    record { settled = refused_lent (λ n p. number_lent n 0 0 p) c.refuse.ensures.number c.refuse.ensures.place (ap number_said c.in-Err.ensures.settled) }
