-- `edge::along::next_place` meets its contract. The invariant: no corner passed lies between. Assumes nothing.
use Rattle.edge.specs.Steps.{place_of}
use Rattle.edge.proofs.Laws.{free_none, free_more, free_all}
use borrow.Author.Rules.{rules}
use Rattle.edge.proofs.along.next_place.Goals as goal

pub loop-i-init : goal.loop-i-init
loop-i-init c = free_none _ _ _ _ (search rules)

pub nearer-best-requires : goal.nearer-best-requires
nearer-best-requires c = c.loop-i.invariant.past

pub loop-i-preserved : goal.loop-i-preserved
unfolding place_of
loop-i-preserved c = free_more _ _ _ _ _ _ _ _ c.loop-i.invariant c.along-place.ensures c.nearer-best.ensures

pub returns : goal.returns
returns c = free_all _ _ _ _ _ _ _ (search rules) c.loop-i.invariant
