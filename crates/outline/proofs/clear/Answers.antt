-- `outline::clear` meets its contract. Assumes nothing.
use mathlib.Core.Path.{refl}
use Rattle.outline.proofs.clear.Goals as goal

pub returns : goal.returns
returns c = record { xs_clear = refl; ys_clear = refl; cells_clear = refl }
