-- `outline::cells::turned` meets its contract. A bit turned over is one less the bit. Assumes nothing.
use Rattle.outline.proofs.Turning.{flip_true, flip_false}
use Rattle.outline.proofs.cells.turned.Goals as goal

pub returns-then-covered : goal.returns-then-covered
returns-then-covered c = flip_true _ _ c.if-covered.true

pub returns-else-covered : goal.returns-else-covered
returns-else-covered c = flip_false _ _ c.if-covered.false
