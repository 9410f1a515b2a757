-- `body` meets its contract: XY, and the end after it. Assumes nothing.
use mathlib.Core.Path.{sym}
use native.Mathlib.Omega.{arith}
use Rattle.number.proofs.Number.{passed}
use Rattle.gdsii.specs.Steps.{scan_told}
use Rattle.gdsii.proofs.Records.{body-points, body-fault, body-read, xy-within}
use Rattle.gdsii.proofs.stream.body.Goals as goal

pub returns-in_err-run : goal.returns-in_err-run
returns-in_err-run c = passed scan_told c.from_residual.ensures.1 (body-points _ _ c.in_err-run.ensures)

pub overflow_mul-run : goal.overflow_mul-run
overflow_mul-run c = omega (arith, (xy-within _ _ (sym c.in_ok-run.ensures)).0.bytes)

pub overflow_add-run : goal.overflow_add-run
overflow_add-run c = omega (arith, (xy-within _ _ (sym c.in_ok-run.ensures)).0.bytes)

pub returns-in_err-ending : goal.returns-in_err-ending
returns-in_err-ending c = passed scan_told c.from_residual-in_err-ending.ensures.1 (body-fault _ _ c.in_ok-run.ensures c.in_err-ending.ensures)

pub returns : goal.returns
returns c = body-read _ _ c.in_ok-run.ensures c.in_ok-ending.ensures
