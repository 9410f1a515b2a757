-- `edge::along::count_runs` meets its contract. The invariant: those counted and those from here on are all of them. Assumes nothing.
use native.Mathlib.Omega.{arith}
use borrow.Author.Rules.{rules}
use Rattle.edge.proofs.Laws.{count-start, count-more, count-end}
use Rattle.edge.proofs.along.count_runs.Goals as goal

pub loop-k-init : goal.loop-k-init
loop-k-init c = (count-start _ _ _, search rules, search rules)

pub overflow_add-count : goal.overflow_add-count
overflow_add-count c = search rules

pub loop-k-smaller : goal.loop-k-smaller
loop-k-smaller c = search rules

pub loop-k-preserved : goal.loop-k-preserved
loop-k-preserved c = (count-more _ _ _ _ _ _ _ _ c.loop-k.invariant.0 c.run_at-run.ensures, omega (arith, c.loop-k.invariant.1, c.run_at-run.ensures.past), c.run_at-run.ensures.within)

pub returns : goal.returns
returns c = count-end _ _ _ _ _ c.loop-k-test.false c.loop-k.invariant.0
