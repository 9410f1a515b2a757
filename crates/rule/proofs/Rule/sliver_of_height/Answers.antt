-- `Rule::sliver_of_height` meets its contract: by whether the rule spares bottom and top. Assumes nothing.
use mathlib.Core.Path.{sym, ◌∙◌}
use Rattle.rule.proofs.Charge.{sliver_tall, sliver-low}
use Rattle.rule.proofs.Rule.sliver_of_height.Goals as goal

pub returns-then-tall : goal.returns-then-tall
returns-then-tall c = sym (sliver_tall _ _ _ _ _ (sym c.requires.tall_value ∙ c.if-tall.true) c.requires.upright_value)

pub returns-else-tall : goal.returns-else-tall
returns-else-tall c = c.longer.ensures ∙ sym (sliver-low _ _ _ _ _ (sym c.requires.tall_value ∙ c.if-tall.false))
