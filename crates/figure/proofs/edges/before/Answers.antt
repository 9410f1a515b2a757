-- `figure::edges::before` meets its contract. The number before 0 is the last. Assumes nothing.
use borrow.Author.Rules.{rules}
use Rattle.figure.proofs.Corners
use Rattle.figure.proofs.edges.before.Goals as goal

pub returns-then-k-eq0 : goal.returns-then-k-eq0
returns-then-k-eq0 c = (Corners.before-none _ _ c.if-k-eq0.true, search rules)

pub returns-else-k-eq0 : goal.returns-else-k-eq0
returns-else-k-eq0 c = (Corners.before-some _ _ c.if-k-eq0.false, search rules)
