-- `Rule::spares` meets its contract. Assumes nothing.
use mathlib.Core.Path.{refl}
use Rattle.rule.specs.Charge.{spared}
use Rattle.rule.proofs.Rule.spares.Goals as goal

pub returns : goal.returns
unfolding spared
returns c = refl
