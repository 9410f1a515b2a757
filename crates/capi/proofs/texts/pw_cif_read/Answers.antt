-- `texts::pw_cif_read` meets its contract: it lends on what the reader tells. Assumes nothing.
use Rattle.capi.proofs.TextLent.{read-shots, read-refused}
use Rattle.capi.proofs.texts.pw_cif_read.Goals as goal

pub returns-in-Ok : goal.returns-in-Ok
returns-in-Ok c = record { settled = read-shots c.read.ensures c.in-Ok.is }

pub returns-in-Err : goal.returns-in-Err
returns-in-Err c = record { settled = read-refused c.read.ensures c.in-Err.is c.refuse.ensures.number c.refuse.ensures.place }
