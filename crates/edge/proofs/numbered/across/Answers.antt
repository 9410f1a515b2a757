-- `edge::numbered::across` meets its contract. Assumes nothing.
use mathlib.Core.Path.{sym, ◌∙◌}
use borrow.Author.Tests.{eqb-true, eqb-false}
use Rattle.edge.proofs.Numbering.{across-upright, across_level}
use Rattle.edge.proofs.numbered.across.Goals as goal

pub returns-then-eq : goal.returns-then-eq
returns-then-eq c = across-upright _ _ _ _ _ c.along-from.ensures c.along-to.ensures (eqb-true _ _ (sym c.eq.ensures ∙ c.if-eq.true))

pub returns-else-eq : goal.returns-else-eq
returns-else-eq c = across_level _ _ _ _ _ c.along-from.ensures c.along-to.ensures (eqb-false _ _ (sym c.eq.ensures ∙ c.if-eq.false))
