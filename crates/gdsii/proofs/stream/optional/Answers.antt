-- `optional` meets its contract: 8, then whether the record is there. Assumes nothing.
use mathlib.Core.Path.{sym, ◌∙◌}
use Rattle.gdsii.proofs.Records.{short_false, optional-short, optional-there, optional-other}
use Rattle.gdsii.proofs.stream.optional.Goals as goal

pub returns-then-cut_short : goal.returns-then-cut_short
returns-then-cut_short c = rw c.at.ensures (optional-short _ _ _ _ _ (sym c.if-cut_short.true ∙ c.cut_short.ensures))

pub has_type-requires : goal.has_type-requires
has_type-requires c = (short_false _ _ (sym c.cut_short.ensures ∙ c.if-cut_short.false)).0

pub returns-then-has_type : goal.returns-then-has_type
returns-then-has_type c =
    optional-there _ _ _ _ _ (sym c.if-cut_short.false ∙ c.cut_short.ensures)
    (sym c.if-has_type.true ∙ c.has_type.ensures) c.required.ensures

pub returns : goal.returns
returns c =
    optional-other _ _ _ _ _ (sym c.if-cut_short.false ∙ c.cut_short.ensures)
    (sym c.if-has_type.false ∙ c.has_type.ensures)
