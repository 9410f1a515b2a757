-- `edge::beside::beneath` meets its contract. Assumes nothing.
use Rattle.edge.proofs.Laws.{beneath-first, beneath-next}
use Rattle.edge.proofs.beside.beneath.Goals as goal

pub returns-then-at-eq0 : goal.returns-then-at-eq0
returns-then-at-eq0 c = beneath-first _ _ _ _ c.if-at-eq0.true

pub returns : goal.returns
returns c = beneath-next _ _ _ _ _ c.if-at-eq0.false c.seen.ensures
