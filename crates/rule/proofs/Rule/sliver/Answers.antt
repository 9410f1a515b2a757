-- `Rule::sliver` meets its contract. Assumes nothing.
use mathlib.Core.Path.{◌∙◌}
use Rattle.rule.proofs.Charge.{sliver-made}
use Rattle.rule.proofs.Rule.sliver.Goals as goal

pub returns : goal.returns
returns c = c.counted.ensures.0 ∙ sliver-made _ _ _ _ _ _ _ c.min.ensures c.longer.ensures
