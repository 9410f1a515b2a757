-- `edge::beside::number` meets its contract. Assumes nothing.
use Rattle.std.specs.Prelude.{Some, ◌+◌}
use mathlib.Core.Path.{◌≡◌, sym, ◌∙◌, ap}
use native.Mathlib.Omega.{arith}
use Rattle.edge.specs.declared.Side.TheVariants.{Low, High}
use Rattle.edge.specs.Steps.{side_no, low_of}
use Rattle.edge.proofs.Laws.{low_small}
use Rattle.edge.proofs.beside.number.Goals as goal

pub overflow_add-result : goal.overflow_add-result
overflow_add-result c = omega (arith, low_small _ _ c.low_side-in-Some-High.ensures)

pub returns-in-None : goal.returns-in-None
unfolding side_no
returns-in-None c = sym (ap (side_no _) c.in-None.is)

pub returns-in-Some-Low : goal.returns-in-Some-Low
unfolding side_no
returns-in-Some-Low c =
    let low : c.in-Some-Low.field-0 ≡ Low = rw c.in-Some-Low.is at c.in-Some-Low.field-0-is in
    c.low_side.ensures ∙ sym (ap (side_no (low_of c.args.axis)) (c.in-Some-Low.is ∙ ap Some low))

pub returns-in-Some-High : goal.returns-in-Some-High
unfolding side_no
returns-in-Some-High c =
    let high : c.in-Some-High.field-0 ≡ High = rw c.in-Some-High.is at c.in-Some-High.field-0-is in
    ap (λ n. n + 1) c.low_side-in-Some-High.ensures ∙ sym (ap (side_no (low_of c.args.axis)) (c.in-Some-High.is ∙ ap Some high))
