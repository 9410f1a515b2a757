-- `Rule::narrow` meets its contract. Assumes nothing.
use mathlib.Core.Path.{◌∙◌}
use Rattle.rule.proofs.Charge.{narrow-made}
use Rattle.rule.proofs.Rule.narrow.Goals as goal

pub returns : goal.returns
returns c = c.counted.ensures.0 ∙ narrow-made _ _ _
