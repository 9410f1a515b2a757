-- `put_ring` meets its contract: V is put, and then the coordinates. Assumes nothing.
use mathlib.Core.Path.{refl, ap}
use native.Mathlib.Omega.{arith}
use lib.ListN.{length}
use lib.Seq.{length-sets}
use Rattle.job.proofs.Writing.{ring-length, ring-put}
use Rattle.job.proofs.write.put_ring.Goals as goal

pub put-at-requires : goal.put-at-requires
put-at-requires c = let n = ring-length c.args.corners.now in (omega arith, omega (arith, n))

pub put_all-requires : goal.put_all-requires
put_all-requires c =
    let n = ring-length c.args.corners.now in
    omega (arith, n, simp length-sets at (ap length c.put-at.ensures.1))

pub returns : goal.returns
returns c = let all = ring-put _ _ _ _ _ _ _ _ c.put-at.ensures.0 c.put-at.ensures.1 c.put_all.ensures.value c.put_all.ensures.out_after refl in record { value = all.0; out_after = all.1 }
