-- `measure` meets its contract: 8 and 16, then 17, 18 along x and y, and 2, one after the other. Assumes nothing.
use mathlib.Core.Path.{sym, ◌∙◌}
use native.Mathlib.Omega.{arith}
use Rattle.number.proofs.Number.{passed}
use Rattle.gdsii.specs.Steps.{scan_told}
use Rattle.gdsii.proofs.Records.{element-within}
use Rattle.gdsii.proofs.Measured.{measured-fault, measured_open, measured-broad, measured-high, measured-long, measured-read}
use Rattle.gdsii.proofs.places.measure.Goals as goal

pub unclosed-requires : goal.unclosed-requires
unclosed-requires c = (element-within _ (sym (c.in_ok-run.ensures))).0

pub returns-then-unclosed : goal.returns-then-unclosed
returns-then-unclosed c = rw c.at.ensures (measured_open _ c.in_ok-run.ensures (sym c.if-unclosed.true ∙ c.unclosed.ensures))

pub broad-requires : goal.broad-requires
broad-requires c = (element-within _ (sym (c.in_ok-run.ensures))).0

pub returns-then-broad : goal.returns-then-broad
returns-then-broad c =
    rw c.at-then-broad.ensures
    (measured-broad _ c.in_ok-run.ensures
    (sym c.if-unclosed.false ∙ c.unclosed.ensures) (sym c.if-broad.true ∙ c.broad.ensures))

pub broad-requires-2 : goal.broad-requires-2
broad-requires-2 c = (element-within _ (sym (c.in_ok-run.ensures))).0

pub returns-then-broad-2 : goal.returns-then-broad-2
returns-then-broad-2 c =
    rw c.at-then-broad-2.ensures
    (measured-high _ c.in_ok-run.ensures
    (sym c.if-unclosed.false ∙ c.unclosed.ensures) (sym c.if-broad.false ∙ c.broad.ensures)
    (sym c.if-broad-2.true ∙ c.broad-2.ensures))

pub overflow_sub-run : goal.overflow_sub-run
overflow_sub-run c = omega (arith, (element-within _ (sym (c.in_ok-run.ensures))).0.some)

pub returns-then-bad_length : goal.returns-then-bad_length
returns-then-bad_length c =
    rw c.at-then-bad_length.ensures
    (measured-long _ c.in_ok-run.ensures
    (sym c.if-unclosed.false ∙ c.unclosed.ensures) (sym c.if-broad.false ∙ c.broad.ensures)
    (sym c.if-broad-2.false ∙ c.broad-2.ensures) (sym c.if-bad_length.true ∙ c.bad_length.ensures))

pub returns-in_err-run : goal.returns-in_err-run
returns-in_err-run c = passed scan_told c.from_residual.ensures.1 (measured-fault _ c.in_err-run.ensures)

pub returns : goal.returns
returns c =
    measured-read _ (c.in_ok-run.ensures)
    (sym c.if-unclosed.false ∙ c.unclosed.ensures) (sym c.if-broad.false ∙ c.broad.ensures)
    (sym c.if-broad-2.false ∙ c.broad-2.ensures) (sym c.if-bad_length.false ∙ c.bad_length.ensures)
