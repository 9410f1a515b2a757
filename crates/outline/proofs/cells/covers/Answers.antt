-- `outline::cells::covers` meets its contract. The high end is tested where the low one does not decide. Assumes nothing.
use Rattle.outline.proofs.Turning.{begins-both, begins-not}
use Rattle.outline.proofs.cells.covers.Goals as goal

pub returns-then-low-bottom : goal.returns-then-low-bottom
returns-then-low-bottom c = begins-both _ _ _ c.if-low-bottom.true

pub returns-else-low-bottom : goal.returns-else-low-bottom
returns-else-low-bottom c = begins-not _ _ _ c.if-low-bottom.false
