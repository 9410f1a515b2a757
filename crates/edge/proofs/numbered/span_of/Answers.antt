-- `edge::numbered::span_of` meets its contract. Assumes nothing.
use Rattle.edge.proofs.Numbering.{spanned}
use Rattle.edge.proofs.numbered.span_of.Goals as goal

pub returns : goal.returns
returns c =
    spanned _ _ _ _ _ _ _ _ _ c.across-axis.ensures c.along-at.ensures c.other.ensures c.other-2.ensures
    c.along-from.ensures c.along-to.ensures _ _ c.min.ensures c.max.ensures
