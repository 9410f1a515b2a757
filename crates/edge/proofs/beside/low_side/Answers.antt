-- `edge::beside::low_side` meets its contract. Assumes nothing.
use Rattle.edge.proofs.Laws.{low_x, low-y}
use Rattle.edge.proofs.beside.low_side.Goals as goal

pub returns-in-X : goal.returns-in-X
returns-in-X c = low_x _ c.in-X.is

pub returns-in-Y : goal.returns-in-Y
returns-in-Y c = low-y _ c.in-Y.is
