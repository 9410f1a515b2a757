-- `edge::beside::inside_at` meets its contract. The invariant: what is told by the rings passed, turned by those from this one on. Assumes nothing.
use mathlib.Core.Path.{refl}
use native.Mathlib.Omega.{arith}
use borrow.Author.Rules.{rules}
use Rattle.edge.proofs.Laws.{turning_start, turning_room, turning_some, turning_more, turning_end}
use Rattle.edge.proofs.beside.inside_at.Goals as goal

pub loop-length-init : goal.loop-length-init
loop-length-init c = turning_start _ _ _ _ c.requires

pub overflow_mul-to : goal.overflow_mul-to
overflow_mul-to c = let r = turning_room _ _ _ _ _ _ _ _ _ c.loop-length.invariant (search rules) c.from.ensures refl in omega (arith, r)

pub overflow_add-to : goal.overflow_add-to
overflow_add-to c = let r = turning_room _ _ _ _ _ _ _ _ _ c.loop-length.invariant (search rules) c.from.ensures refl in omega (arith, r)

pub slice_bounds-ring_holds-end : goal.slice_bounds-ring_holds-end
slice_bounds-ring_holds-end c =
    let r = turning_room _ _ _ _ _ _ _ _ _ c.loop-length.invariant (search rules) c.from.ensures refl in
    search (rules, r.1)

pub ring_holds-hit-requires : goal.ring_holds-hit-requires
ring_holds-hit-requires c = turning_some _ _ _ _ _ _ _ _ _ c.loop-length.invariant (search rules) c.from.ensures refl c.requires

pub loop-length-preserved : goal.loop-length-preserved
loop-length-preserved c =
    turning_more _ _ _ _ _ _ _ _ _ c.loop-length.invariant (search rules) c.from.ensures refl _ _
    c.ring_holds-hit.ensures c.turned-inside.ensures

pub returns : goal.returns
returns c = turning_end _ _ _ _ _ _ _ c.loop-length.invariant (search rules)
