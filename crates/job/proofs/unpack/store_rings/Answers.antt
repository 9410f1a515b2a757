-- `store_rings` meets its contract: the rings stored and those still to be read give the whole, in both lists. Assumes nothing.
use mathlib.Core.Path.{◌∙◌, refl}
use native.Mathlib.Omega.{arith}
use Rattle.job.proofs.Unpacking.{sets_all, lengths-long, filling_start, filling_ring, filling_room, filling_few, filling_more, filling_done}
use Rattle.job.proofs.unpack.store_rings.Goals as goal

pub loop-length-init : goal.loop-length-init
loop-length-init c = filling_start _ _ _ _ _ c.requires.read c.requires.at_in_bounds

pub store_ring-ring-requires : goal.store_ring-ring-requires
store_ring-ring-requires c =
    let here = c.loop-length.invariant in
    record {
      most_le_most_corners = omega arith;
      read = filling_ring _ _ _ _ _ _ _ _ _ _ here (omega arith);
      at_in_bounds = filling_room _ _ _ _ _ _ _ _ _ _ here (omega arith);
    }

pub overflow_cast-length : goal.overflow_cast-length
overflow_cast-length c =
    omega (arith, (filling_few _ _ _ _ _ _ _ _ _ _ c.loop-length.invariant (omega arith) c.store_ring-ring.ensures.at_value).0)

pub overflow_add-total : goal.overflow_add-total
overflow_add-total c =
    omega (arith, (filling_few _ _ _ _ _ _ _ _ _ _ c.loop-length.invariant (omega arith) c.store_ring-ring.ensures.at_value).1)

pub loop-length-preserved : goal.loop-length-preserved
loop-length-preserved c =
    filling_more _ _ _ _ _ _ _ _ _ _ c.loop-length.invariant (omega arith) c.store_ring-ring.ensures.at_value _ _
    c.store_ring-ring.ensures.list_after
    refl

pub returns : goal.returns
returns c =
    let all = filling_done _ _ _ _ _ _ _ _ _ _ c.loop-length.invariant (omega arith) in
    record { list_after = all.0; lengths_after = all.1 ∙ sets_all _ _ (lengths-long _ _ _ _ c.requires.read) }
