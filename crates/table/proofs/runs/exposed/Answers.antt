-- `table::runs::exposed` meets its contract. Assumes nothing.
use Rattle.table.proofs.Run.{bare-outside, bare-exposed, bare-covered}
use Rattle.table.proofs.runs.exposed.Goals as goal

pub returns-then-near-eq0 : goal.returns-then-near-eq0
returns-then-near-eq0 c = bare-outside _ _ _ c.if-near-eq0.true

pub returns-then-far-eq0 : goal.returns-then-far-eq0
returns-then-far-eq0 c = bare-exposed _ _ _ c.if-near-eq0.false c.if-far-eq0.true

pub returns-else-far-eq0 : goal.returns-else-far-eq0
returns-else-far-eq0 c = bare-covered _ _ _ c.if-near-eq0.false c.if-far-eq0.false
