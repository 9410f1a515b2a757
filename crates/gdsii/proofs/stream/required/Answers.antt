-- `required` meets its contract: 8, then 16. Assumes nothing.
use mathlib.Core.Path.{sym, ◌∙◌}
use native.Mathlib.Omega.{arith}
use Rattle.gdsii.proofs.Records.{short_false, is-size, required-short, required-is, required-wrong}
use Rattle.gdsii.proofs.stream.required.Goals as goal

pub returns-then-cut_short : goal.returns-then-cut_short
returns-then-cut_short c = rw c.at.ensures (required-short _ _ _ _ _ (sym c.if-cut_short.true ∙ c.cut_short.ensures))

pub is-requires : goal.is-requires
is-requires c = (short_false _ _ (sym c.cut_short.ensures ∙ c.if-cut_short.false)).0

pub overflow_add-result : goal.overflow_add-result
overflow_add-result c =
    omega
    (arith, (short_false _ _ (sym c.cut_short.ensures ∙ c.if-cut_short.false)).1, is-size _ _ _ _ _ (sym c.is.ensures ∙ c.if-is.true))

pub returns-then-is : goal.returns-then-is
returns-then-is c = required-is _ _ _ _ _ (sym c.if-cut_short.false ∙ c.cut_short.ensures) (sym c.if-is.true ∙ c.is.ensures)

pub returns : goal.returns
returns c = rw c.at-2.ensures (required-wrong _ _ _ _ _ (sym c.if-cut_short.false ∙ c.cut_short.ensures) (sym c.if-is.false ∙ c.is.ensures))
