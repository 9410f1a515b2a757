-- `count::corners::farther` meets its contract. Assumes nothing.
use Rattle.count.proofs.Climbing.{farther-same, farther-other}
use Rattle.count.proofs.corners.farther.Goals as goal

pub returns-then-cell-next : goal.returns-then-cell-next
returns-then-cell-next c = farther-same _ _ _ c.if-cell-next.true

pub returns-else-cell-next : goal.returns-else-cell-next
returns-else-cell-next c = farther-other _ _ _ c.if-cell-next.false
