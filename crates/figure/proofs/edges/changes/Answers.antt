-- `figure::edges::changes` meets its contract. The edge that ends at a corner starts at the one before. Assumes nothing.
use mathlib.Core.Path.{◌∙◌}
use borrow.Author.Rules.{rules}
use Rattle.figure.proofs.Corners
use Rattle.figure.proofs.edges.changes.Goals as goal

pub returns : goal.returns
returns c =
    c.ne.ensures
    ∙ Corners.changes-at _ _ _ _ _ _ (search rules)
    c.before-2.ensures.0
    c.along-from.ensures
    c.along-to.ensures
