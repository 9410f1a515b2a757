-- `pw_cuts` meets its contract: it lends on what is told ahead. Assumes nothing.
use Rattle.fracture.specs.Told.{ahead_told}
use Rattle.capi.specs.Lent.{cuts_lent}
use Rattle.capi.proofs.Lent.{renumbered}
use Rattle.capi.proofs.pw_cuts.Goals as goal

pub returns-in-Ok : goal.returns-in-Ok
unfolding ahead_told
returns-in-Ok c = record { settled = c.in-Ok.ensures.settled }

pub returns-in-Err : goal.returns-in-Err
unfolding ahead_told
returns-in-Err c = record { settled = renumbered (λ k. cuts_lent k 0) c.from.ensures c.in-Err.ensures.settled }
