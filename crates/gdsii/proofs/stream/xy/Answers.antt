-- `xy` meets its contract: 8, then whole points and at least one. Assumes nothing.
use mathlib.Core.Path.{sym, ◌∙◌, refl}
use native.Mathlib.Omega.{arith}
use Rattle.gdsii.proofs.Records.{short_false, xy-short, xy-few, xy-wrong, xy-is}
use Rattle.gdsii.proofs.stream.xy.Goals as goal

pub returns-then-cut_short : goal.returns-then-cut_short
returns-then-cut_short c = rw c.at.ensures (xy-short _ _ (sym c.if-cut_short.true ∙ c.cut_short.ensures))

pub size_at-size-requires : goal.size_at-size-requires
size_at-size-requires c = (short_false _ _ (sym c.cut_short.ensures ∙ c.if-cut_short.false)).0

pub returns-then-size-lt12 : goal.returns-then-size-lt12
returns-then-size-lt12 c = rw c.at-then-size-lt12.ensures (xy-few _ _ (sym c.if-cut_short.false ∙ c.cut_short.ensures) _ c.size_at-size.ensures (omega arith))

pub is-requires : goal.is-requires
is-requires c = (short_false _ _ (sym c.cut_short.ensures ∙ c.if-cut_short.false)).0

pub overflow_add-first : goal.overflow_add-first
overflow_add-first c = omega (arith, (short_false _ _ (sym c.cut_short.ensures ∙ c.if-cut_short.false)).0)

pub returns-then-is : goal.returns-then-is
returns-then-is c =
    xy-is _ _ (sym c.if-cut_short.false ∙ c.cut_short.ensures) _ c.size_at-size.ensures _ refl (omega arith)
    (sym c.if-is.true ∙ c.is.ensures)

pub returns : goal.returns
returns c =
    rw c.at-2.ensures
    (xy-wrong _ _ (sym c.if-cut_short.false ∙ c.cut_short.ensures) _ c.size_at-size.ensures _ refl
    (sym c.if-is.false ∙ c.is.ensures))
