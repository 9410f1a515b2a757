-- `sliver::stretch` meets its contract. Assumes nothing.
use mathlib.Core.Path.{◌∙◌}
use borrow.Author.Rules.{rules}
use Rattle.sliver.proofs.Sides.{exposed_at_lem, exposed-within, exposed-across}
use Rattle.sliver.proofs.stretch.Goals as goal

pub returns-then-far-eq0 : goal.returns-then-far-eq0
returns-then-far-eq0 c = (c.from.ensures ∙ exposed_at_lem _ _ _ _ (search rules) (search rules), search rules)

pub returns-else-far-eq0 : goal.returns-else-far-eq0
returns-else-far-eq0 c = (exposed-across _ _ _ _ (search rules) c.if-far-eq0.false, search rules)

pub returns-else-near-eq1 : goal.returns-else-near-eq1
returns-else-near-eq1 c = (exposed-within _ _ _ _ c.if-near-eq1.false, search rules)
