-- `edge::beside::covers` meets its contract. Assumes nothing.
use Rattle.edge.proofs.Laws.{spans-both, spans-not}
use Rattle.edge.proofs.beside.covers.Goals as goal

pub returns-then-low-y : goal.returns-then-low-y
returns-then-low-y c = spans-both _ _ _ c.if-low-y.true

pub returns-else-low-y : goal.returns-else-low-y
returns-else-low-y c = spans-not _ _ _ c.if-low-y.false
