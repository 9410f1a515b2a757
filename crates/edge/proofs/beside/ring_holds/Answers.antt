-- `edge::beside::ring_holds` meets its contract. The invariant: an odd number of the edges passed stand left of the square. Assumes nothing.
use Rattle.edge.proofs.Laws.{round_none, round_more, round_all}
use borrow.Author.Rules.{rules}
use Rattle.edge.proofs.beside.ring_holds.Goals as goal

pub loop-end-init : goal.loop-end-init
loop-end-init c = round_none _ _ _ (search rules)

pub loop-end-preserved : goal.loop-end-preserved
loop-end-preserved c = round_more _ _ _ _ _ _ _ _ (search rules) c.loop-end.invariant c.stands-hit.ensures c.turned-inside.ensures

pub returns : goal.returns
returns c = round_all _ _ _ _ _ _ (search rules) c.loop-end.invariant
