-- `edge::beside::turned` meets its contract. Assumes nothing.
use Rattle.edge.proofs.Laws.{turned-told}
use Rattle.edge.proofs.beside.turned.Goals as goal

pub returns : goal.returns
returns c = turned-told _ _
