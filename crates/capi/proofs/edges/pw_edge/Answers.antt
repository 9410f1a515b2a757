-- `edges::pw_edge` meets its contract: it lends on what the walk tells. Assumes nothing.
use Rattle.refusal.proofs.Refusals.{told_as}
use Rattle.capi.proofs.Lent.{renumbered}
use Rattle.edge.specs.Promise.{edge_told}
use Rattle.capi.specs.EdgeLent.{edge_lent}
use Rattle.capi.proofs.edges.pw_edge.Goals as goal

pub returns-in-Ok : goal.returns-in-Ok
returns-in-Ok c = record { settled = told_as (λ u. edge_told u c.edge_shots.new.runs) c.in-Ok.is c.edge_shots.ensures.settled }

pub returns-in-Err : goal.returns-in-Err
returns-in-Err c = record { settled = renumbered (λ n. edge_lent n 0 c.edge_shots.new.runs) c.from.ensures (told_as (λ u. edge_told u c.edge_shots.new.runs) c.in-Err.is c.edge_shots.ensures.settled) }
