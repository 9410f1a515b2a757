-- `join::takes` meets its contract. Assumes nothing.
use Rattle.join.proofs.Laws.{takes_paired, takes_free}
use Rattle.join.proofs.takes.Goals as goal

pub returns-then-b-j : goal.returns-then-b-j
returns-then-b-j c = takes_paired _ _ _ c.if-b-j.true

pub returns : goal.returns
returns c = takes_free _ _ _ _ c.if-b-j.false c.can_be_joined.ensures
