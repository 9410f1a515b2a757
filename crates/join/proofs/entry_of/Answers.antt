use mathlib.Core.Path.{refl}
use Rattle.join.specs.Steps.{entry_of}
use Rattle.join.proofs.entry_of.Goals as goal

pub returns : goal.returns
unfolding entry_of
returns c = refl
