-- `outline::cells::mark_walls` meets its contract. The invariant: the rings passed are marked. Assumes nothing.
use mathlib.Core.Path.{refl}
use native.Mathlib.Omega.{arith}
use borrow.Author.Rules.{rules}
use Rattle.outline.proofs.Marking.{rings-start, rings-room, rings-ruled, rings-more, rings-end}
use Rattle.outline.proofs.cells.mark_walls.Goals as goal

pub loop-length-init : goal.loop-length-init
loop-length-init c = (search rules, rings-start _ _ _ _ _ c.requires.lined c.requires.marks)

pub overflow_mul-to : goal.overflow_mul-to
overflow_mul-to c =
    let r = rings-room _ _ _ _ _ c.requires.lined c.requires.marks _ _ _ _ _ c.loop-length.invariant.1 (search rules) c.from.ensures refl in
    omega (arith, r)

pub overflow_add-to : goal.overflow_add-to
overflow_add-to c =
    let r = rings-room _ _ _ _ _ c.requires.lined c.requires.marks _ _ _ _ _ c.loop-length.invariant.1 (search rules) c.from.ensures refl in
    omega (arith, r)

pub slice_bounds-mark_ring-end : goal.slice_bounds-mark_ring-end
slice_bounds-mark_ring-end c =
    let r = rings-room _ _ _ _ _ c.requires.lined c.requires.marks _ _ _ _ _ c.loop-length.invariant.1 (search rules) c.from.ensures refl in
    search (rules, r.1)

pub mark_ring-requires : goal.mark_ring-requires
mark_ring-requires c = record { ruled = rings-ruled _ _ _ _ _ c.requires.lined c.requires.marks _ _ _ _ _ c.loop-length.invariant.1 (search rules) c.from.ensures refl; marks = c.loop-length.invariant.1.marked.marks }

pub loop-length-preserved : goal.loop-length-preserved
loop-length-preserved c = (
  search rules,
  rings-more _ _ _ _ _ c.requires.lined c.requires.marks _ _ _ _ _ c.loop-length.invariant.1 (search rules) c.from.ensures refl _ c.mark_ring.ensures,
)

pub returns : goal.returns
returns c = rings-end _ _ _ _ _ c.requires.lined c.requires.marks _ _ _ c.loop-length.invariant.1 (search rules)
