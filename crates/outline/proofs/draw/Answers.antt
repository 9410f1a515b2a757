-- `outline::draw` meets its contract: refused for its shape, with no cell inside, and drawn. Assumes nothing.
use Rattle.std.specs.Prelude.{Err}
use mathlib.Core.Path.{◌≡◌, sym}
use native.Mathlib.Omega.{arith}
use Rattle.figure.proofs.Fault.{fault-right}
use Rattle.outline.specs.Promise.{sheet}
use Rattle.outline.proofs.Promise.{promise_fault, promise_empty, promise_accepted, sheet-without}
use Rattle.outline.proofs.draw.Goals as goal

pub returns-in_err-shape_of : goal.returns-in_err-shape_of
returns-in_err-shape_of c =
    let handed : c.from_residual.result ≡ Err c.in_err-shape_of.field-0.0 = grind arith in
    rw handed (promise_fault _ _ _ c.in_err-shape_of.ensures.settled (sheet-without _ _ _ _ c.clear.ensures))

pub trace-drawing-requires-clause-right : goal.trace-drawing-requires-clause-right
trace-drawing-requires-clause-right c = fault-right _ (sym c.in_ok-shape_of.ensures.settled)

pub returns-then-any_inside : goal.returns-then-any_inside
unfolding sheet
returns-then-any_inside c =
    promise_accepted _ (fault-right _ (sym c.in_ok-shape_of.ensures.settled)) (λ i. omega (arith, c.type_inv.corners i)) _ c.trace-drawing.ensures _ c.any_inside.ensures
    c.if-any_inside.true

pub returns : goal.returns
unfolding sheet
returns c =
    promise_empty _ (fault-right _ (sym c.in_ok-shape_of.ensures.settled)) (λ i. omega (arith, c.type_inv.corners i)) _ c.trace-drawing.ensures _ c.any_inside.ensures
    c.if-any_inside.false
    _
    (sheet-without _ _ _ _ c.clear-2.ensures)
