-- `put_announcement` meets its contract: nothing before one ring, else 0 and their number. Assumes nothing.
use mathlib.Core.Path.{ap}
use native.Mathlib.Omega.{arith}
use lib.ListN.{length}
use lib.Seq.{length-sets}
use Rattle.job.proofs.Writing.{announced_nothing, announced-length, announced-put}
use Rattle.job.proofs.write.put_announcement.Goals as goal

pub returns-then-count-eq1 : goal.returns-then-count-eq1
returns-then-count-eq1 c = announced_nothing _ c.if-count-eq1.true _

pub put-at-requires : goal.put-at-requires
put-at-requires c = let n = announced-length _ c.if-count-eq1.false in (omega arith, omega (arith, n))

pub put-requires : goal.put-requires
put-requires c =
    let n = announced-length _ c.if-count-eq1.false in
    let m = simp length-sets at (ap length c.put-at.ensures.1) in
    (omega arith, omega (arith, n, m))

pub returns : goal.returns
returns c = announced-put _ c.if-count-eq1.false _ _ _ _ _ c.put-at.ensures.0 c.put-at.ensures.1 c.put.ensures.0 c.put.ensures.1
