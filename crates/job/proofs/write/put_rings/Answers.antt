-- `put_rings` meets its contract: the rings put and those still to be put give what the whole gives. Assumes nothing.
use mathlib.Core.Path.{refl}
use borrow.Author.Rules.{rules}
use Rattle.job.proofs.Writing.{putting_start, putting_part, putting_short, putting_room, putting_more, putting_done}
use Rattle.job.proofs.write.put_rings.Goals as goal

pub loop-length-init : goal.loop-length-init
loop-length-init c = putting_start _ _ _ _ c.requires.lengths_value

pub slice_bounds-put_ring-end : goal.slice_bounds-put_ring-end
slice_bounds-put_ring-end c = let r = putting_part _ _ _ _ _ _ _ _ c.loop-length.invariant _ _ (search rules) c.from.ensures refl in search (rules, r.1)

pub put_ring-at-requires : goal.put_ring-at-requires
put_ring-at-requires c =
    let here = c.loop-length.invariant in
    record {
      corners_len_bound = putting_short _ _ _ _ _ _ _ _ here _ _ (search rules) c.from.ensures refl;
      corners_in_bounds = putting_room _ _ _ _ _ _ _ _ here _ _ (search rules) c.from.ensures refl c.requires.corners_in_bounds;
    }

pub loop-length-preserved : goal.loop-length-preserved
loop-length-preserved c =
    putting_more _ _ _ _ _ _ _ _ c.loop-length.invariant _ _ (search rules) c.from.ensures refl _ _
    c.put_ring-at.ensures.value
    c.put_ring-at.ensures.out_after

pub returns : goal.returns
returns c = putting_done _ _ _ _ _ _ _ _ c.loop-length.invariant (search rules)
