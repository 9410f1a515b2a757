-- `edge::beside::side_at` meets its contract. Assumes nothing.
use mathlib.Core.Path.{refl}
use Rattle.edge.proofs.Laws.{side-told}
use Rattle.edge.proofs.beside.side_at.Goals as goal

pub returns : goal.returns
returns c = side-told _ _ _ _ _ _ _ _ c.seen-high.ensures c.beneath-low.ensures refl (c.face.ensures _)
