-- `figure::edges::both` meets its contract. Both tests are made one after the other. Assumes nothing.
use Rattle.figure.specs.Corners.{both}
use Rattle.figure.proofs.Corners
use Rattle.figure.proofs.edges.both.Goals as goal

pub returns-then-x : goal.returns-then-x
unfolding both
returns-then-x c = Corners.and-taken _ _ _ _ c.changes-x.ensures c.changes-y.ensures c.if-x.true

pub returns-else-x : goal.returns-else-x
unfolding both
returns-else-x c = Corners.and_left _ _ _ c.changes-x.ensures c.if-x.false
