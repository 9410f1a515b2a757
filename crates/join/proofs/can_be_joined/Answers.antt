use mathlib.Core.Path.{sym, ◌∙◌}
use Rattle.join.proofs.Laws.{join-right, join-left, join-top, join-bottom}
use Rattle.join.specs.Join.{beside, below, as_shot}
use Rattle.join.proofs.can_be_joined.Goals as goal

pub returns-then-touch : goal.returns-then-touch
unfolding beside below as_shot
returns-then-touch c = join-right _ _ (sym c.if-touch.true ∙ c.touch.ensures)

pub returns-then-touch-2 : goal.returns-then-touch-2
unfolding beside below as_shot
returns-then-touch-2 c = join-left _ _ (sym c.if-touch.false ∙ c.touch.ensures) (sym c.if-touch-2.true ∙ c.touch-2.ensures)

pub returns-then-touch-3 : goal.returns-then-touch-3
unfolding beside below as_shot
returns-then-touch-3 c = join-top _ _ (sym c.if-touch.false ∙ c.touch.ensures) (sym c.if-touch-2.false ∙ c.touch-2.ensures) (sym c.if-touch-3.true ∙ c.touch-3.ensures)

pub returns : goal.returns
unfolding beside below as_shot
returns c = join-bottom _ _ _ (sym c.if-touch.false ∙ c.touch.ensures) (sym c.if-touch-2.false ∙ c.touch-2.ensures) (sym c.if-touch-3.false ∙ c.touch-3.ensures) c.touch-4.ensures
