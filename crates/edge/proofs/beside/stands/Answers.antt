-- `edge::beside::stands` meets its contract. Assumes nothing.
use mathlib.Core.Path.{◌∙◌}
use Rattle.edge.proofs.Laws.{stands_level, stands-right, stands_up, stands_down}
use Rattle.edge.proofs.beside.stands.Goals as goal

pub returns-then-a-c : goal.returns-then-a-c
returns-then-a-c c = stands_level _ _ _ _ _ _ c.if-a-c.true

pub returns-then-x-c : goal.returns-then-x-c
returns-then-x-c c = stands-right _ _ _ _ _ _ c.if-a-c.false c.if-x-c.true

pub returns-then-b-d : goal.returns-then-b-d
returns-then-b-d c = c.covers.ensures ∙ stands_up _ _ _ _ _ _ c.if-a-c.false c.if-x-c.false c.if-b-d.true

pub returns : goal.returns
returns c = c.covers-2.ensures ∙ stands_down _ _ _ _ _ _ c.if-a-c.false c.if-x-c.false c.if-b-d.false
