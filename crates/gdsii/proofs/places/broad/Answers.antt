-- `broad` meets its contract: the lowest and the highest place compared. Assumes nothing.
use mathlib.Core.Path.{◌∙◌}
use Rattle.gdsii.proofs.Points.{broad-points}
use Rattle.gdsii.proofs.places.broad.Goals as goal

pub returns : goal.returns
returns c = broad-points _ _ _ _ _ (c.from.ensures ∙ c.lowest-low.ensures) (c.from-2.ensures ∙ c.highest-high.ensures)
