-- `edge::ending::side_on` meets its contract. Assumes nothing.
use borrow.Author.Rules.{rules}
use Rattle.edge.specs.Steps.{side_no}
use Rattle.edge.proofs.Laws.{on_below, on_above, on_begin, on_end, on_none}
use Rattle.edge.proofs.ending.side_on.Goals as goal

pub returns-then-k-from : goal.returns-then-k-from
unfolding side_no
returns-then-k-from c n = on_below _ _ _ _ _ _ n (search rules)

pub returns-then-to-k : goal.returns-then-to-k
unfolding side_no
returns-then-to-k c n = on_above _ _ _ _ _ _ n (search rules) (search rules)

pub returns-then-low-at : goal.returns-then-low-at
unfolding side_no
returns-then-low-at c n = on_begin _ _ _ _ _ _ n (search rules) (search rules) c.if-low-at.true

pub returns-then-high-at : goal.returns-then-high-at
unfolding side_no
returns-then-high-at c n = on_end _ _ _ _ _ _ n (search rules) (search rules) c.if-low-at.false c.if-high-at.true

pub returns : goal.returns
unfolding side_no
returns c n = on_none _ _ _ _ _ _ n (search rules) (search rules) c.if-low-at.false c.if-high-at.false
