-- `outline::cells::mark_from` meets its contract. The invariant: the walls passed are marked, and the next edge is one. Assumes nothing.
use native.Mathlib.Omega.{arith}
use borrow.Author.Rules.{rules}
use Rattle.outline.proofs.Marking.{edges-start, edges-upright, edges_more, edges-end}
use Rattle.outline.proofs.cells.mark_from.Goals as goal

pub loop-edge-init : goal.loop-edge-init
loop-edge-init c = (search rules, edges-start c.args.corners.now _ _ _ _ c.requires.walled c.requires.marks)

pub overflow_sub-edge : goal.overflow_sub-edge
overflow_sub-edge c = search (rules, c.loop-edge.invariant.1.walled.some)

pub mark-requires : goal.mark-requires
mark-requires c = record { k_in_bounds = search rules; upright = edges-upright _ _ _ _ _ _ _ c.requires.ruled c.loop-edge.invariant.1 (search rules); ruled = c.requires.ruled; marks = c.loop-edge.invariant.1.marks }

pub loop-edge-preserved : goal.loop-edge-preserved
loop-edge-preserved c = (search rules, edges_more _ _ _ _ _ _ _ c.requires.ruled c.loop-edge.invariant.1 _ (search rules) c.mark.ensures)

pub returns : goal.returns
returns c = edges-end _ _ _ _ _ _ _ c.requires.ruled c.loop-edge.invariant.1 c.loop-edge-test.false

pub returns-2 : goal.returns-2
returns-2 c =
    edges-end _ _ _ _ _ _ _ c.requires.ruled
    (edges_more _ _ _ _ _ _ _ c.requires.ruled c.loop-edge.invariant.1 _ (search rules) c.mark.ensures)
    (omega (arith, c.loop-edge-test.true))
