-- `edge::ending::landing_at` meets its contract. Assumes nothing.
use Rattle.edge.specs.Steps.{side_no}
use Rattle.edge.proofs.Laws.{landed_none, landed_some, none_one}
use borrow.Author.Rules.{rules}
use Rattle.edge.proofs.ending.landing_at.Goals as goal

pub returns-in_default : goal.returns-in_default
unfolding side_no
returns-in_default c = record { told = landed_none _ _ _ _ _ c.in_default.ensures; from_1 = none_one }

pub returns : goal.returns
returns c = record { told = landed_some _ _ _ _ _ _ _ (search rules) c.in-Some.ensures c.shot_with.ensures.number; from_1 = c.shot_with.ensures.from_1 }
