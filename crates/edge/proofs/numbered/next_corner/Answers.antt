-- `edge::numbered::next_corner` meets its contract. The invariant: the edge is one of the rings from this one on. Assumes nothing.
use mathlib.Core.Path.{refl}
use native.Mathlib.Omega.{arith}
use borrow.Author.Rules.{rules}
use Rattle.edge.proofs.Numbering.{coming_start, coming_room, coming_next, coming_close, coming_more, coming_end, past-edge}
use Rattle.edge.proofs.numbered.next_corner.Goals as goal

pub loop-length-init : goal.loop-length-init
loop-length-init c = coming_start _ _ _ c.requires.lengths_value

pub overflow_add-past : goal.overflow_add-past
overflow_add-past c =
    let r = coming_room _ _ _ _ _ _ _ (search rules) c.from.ensures refl c.loop-length.invariant in
    omega (arith, r)

pub returns-then-edge-past : goal.returns-then-edge-past
returns-then-edge-past c = coming_next _ _ _ _ _ _ _ (search rules) c.from.ensures refl c.loop-length.invariant c.if-edge-past.true

pub returns-then-edge-past-2 : goal.returns-then-edge-past-2
returns-then-edge-past-2 c = coming_close _ _ _ _ _ _ _ (search rules) c.from.ensures refl c.loop-length.invariant c.if-edge-past-2.true

pub loop-length-preserved : goal.loop-length-preserved
loop-length-preserved c =
    coming_more _ _ _ _ _ _ _ (search rules) c.from.ensures refl c.loop-length.invariant (past-edge _ _ c.if-edge-past.false c.if-edge-past-2.false)

pub returns : goal.returns
returns c = absurd (coming_end _ _ _ _ _ c.loop-length.invariant (search rules) c.requires.edge_in_bounds)
