-- `edge::along::steady` meets its contract. Assumes nothing.
use Rattle.edge.proofs.Between.{steady_along}
use borrow.Author.Rules.{rules}
use Rattle.edge.proofs.along.steady.Goals as goal

pub returns : goal.returns
returns c = steady_along _ _ _ _ _ _ _ _ _ _ (search rules) (search rules) c.other-run.ensures c.next_place-near.ensures c.next_place.ensures
