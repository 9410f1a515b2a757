-- `figure::edges::along` meets its contract. The place of a corner stands in the list at twice its number, or one further. Assumes nothing.
use borrow.Author.Rules.{rules}
use Rattle.figure.proofs.Corners
use Rattle.figure.proofs.edges.along.Goals as goal

pub returns-in-X : goal.returns-in-X
returns-in-X c = Corners.coordinate-x _ _ _ (search rules) c.in-X.is

pub returns-in-Y : goal.returns-in-Y
returns-in-Y c = Corners.coordinate-y _ _ _ (search rules) c.in-Y.is
