-- `edge::beside::seen` meets its contract. Assumes nothing.
use Rattle.edge.proofs.Laws.{seen-x, seen-y}
use Rattle.edge.proofs.beside.seen.Goals as goal

pub returns-in-X : goal.returns-in-X
returns-in-X c = seen-x _ _ _ _ _ c.in-X.is c.inside_at.ensures

pub returns-in-Y : goal.returns-in-Y
returns-in-Y c = seen-y _ _ _ _ _ c.in-Y.is c.inside_at-in-Y.ensures
