-- `shift` meets its contract: the lowest place, as a signed number. Assumes nothing.
use Rattle.gdsii.proofs.Points.{shift-told}
use mathlib.Core.Path.{◌∙◌, ap}
use lib.IntN.{sub_ℕ}
use Rattle.gdsii.proofs.places.shift.Goals as goal

pub returns : goal.returns
returns c = shift-told _ _ _ (c.lowered.ensures ∙ ap (λ n. sub_ℕ n 2147483648) c.lowest.ensures)
