-- `has_type` meets its contract: the third byte. Assumes nothing.
use mathlib.Core.Path.{refl}
use Rattle.gdsii.specs.Record.{typed}
use Rattle.gdsii.proofs.stream.has_type.Goals as goal

pub returns : goal.returns
unfolding typed
returns c = refl
