-- `scan` meets its contract: what stands before the points, and the points with the end after them. Assumes nothing.
use Rattle.number.proofs.Number.{passed}
use Rattle.gdsii.specs.Steps.{scan_told}
use Rattle.gdsii.proofs.Records.{element-heading, element-layering, element-body}
use Rattle.gdsii.proofs.stream.scan.Goals as goal

pub returns-in_err-layer : goal.returns-in_err-layer
returns-in_err-layer c = passed scan_told c.from_residual.ensures.1 (element-heading _ c.in_err-layer.ensures)

pub returns-in_err-points : goal.returns-in_err-points
returns-in_err-points c = passed scan_told c.from_residual-in_err-points.ensures.1 (element-layering _ c.in_ok-layer.ensures c.in_err-points.ensures)

pub returns : goal.returns
returns c = element-body _ c.in_ok-layer.ensures c.in_ok-points.ensures c.body.ensures
