-- `table::sides::column_before` meets its contract. Assumes nothing.
use Rattle.table.proofs.Side.{before-first, before_later}
use Rattle.table.proofs.sides.column_before.Goals as goal

pub returns-then-line-eq0 : goal.returns-then-line-eq0
returns-then-line-eq0 c = before-first _ c.if-line-eq0.true

pub returns : goal.returns
returns c = before_later _ c.requires c.if-line-eq0.false
