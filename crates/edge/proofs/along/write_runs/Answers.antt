-- `edge::along::write_runs` meets its contract. The invariant: what is written and what is still to come give the whole. Assumes nothing.
use mathlib.Core.Path.{◌∙◌}
use borrow.Author.Rules.{rules}
use Rattle.edge.proofs.Writing.{ahead-start, ahead-room, ahead_more, ahead-end, ahead-length}
use Rattle.edge.proofs.along.write_runs.Goals as goal

pub loop-k-init : goal.loop-k-init
loop-k-init c = (ahead-start _ _ _ _ (search rules), search rules, search rules)

pub store-requires : goal.store-requires
store-requires c = ahead-room _ _ _ _ _ _ _ _ _ c.run_at-run.ensures c.loop-k.invariant.0

pub loop-k-smaller : goal.loop-k-smaller
loop-k-smaller c = search rules

pub loop-k-preserved : goal.loop-k-preserved
loop-k-preserved c = (ahead_more _ _ _ _ _ _ _ _ _ _ c.run_at-run.ensures c.loop-k.invariant.0 c.store.ensures, ahead-length _ _ _ _ _ _ _ _ _ _ c.run_at-run.ensures c.loop-k.invariant.0 c.store.ensures ∙ c.loop-k.invariant.1, c.run_at-run.ensures.within)

pub returns : goal.returns
returns c = ahead-end _ _ _ _ _ _ c.loop-k-test.false c.loop-k.invariant.0
