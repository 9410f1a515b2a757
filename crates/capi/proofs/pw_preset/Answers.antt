-- `pw_preset` meets its contract: it lends on what the preset call tells. Assumes nothing.
use Rattle.capi.specs.Lent.{preset_lent}
use Rattle.capi.proofs.Lent.{renumbered}
use Rattle.capi.proofs.pw_preset.Goals as goal

pub returns-in-Ok : goal.returns-in-Ok
returns-in-Ok c = record { settled = c.in-Ok.ensures.settled }

pub returns-in-Err : goal.returns-in-Err
returns-in-Err c = record { settled = renumbered (λ n. preset_lent n 0 0) c.from.ensures c.in-Err.ensures.settled }
