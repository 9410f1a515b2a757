-- `put_all` meets its contract: what is put and what is still to be put give what the whole gives. Assumes nothing.
use Prim.Native.Nat.{ℕ}
use mathlib.Core.Path.{◌∙◌, ap}
use mathlib.Core.List.{List}
use native.Mathlib.Omega.{arith}
use lib.ListN.{length}
use lib.Seq.{length-sets}
use Rattle.job.proofs.Writing.{coordinates-done, put-more, put-room, put-done}
use Rattle.job.proofs.write.put_all.Goals as goal

pub put-at-requires : goal.put-at-requires
put-at-requires c =
    let corners : List ℕ = c.args.corners.now in
    let here = c.loop-x.invariant in (
      omega arith,
      put-room corners c.loop-x.x-index _ _ _ _ c.from.ensures here.1 (omega arith) (omega arith),
    )

pub loop-x-preserved : goal.loop-x-preserved
loop-x-preserved c =
    let corners : List ℕ = c.args.corners.now in
    let here = c.loop-x.invariant in
    let more =
    put-more corners _ _ c.loop-x.x-index _ _ _ _ _ c.from.ensures c.put-at.ensures.0 c.put-at.ensures.1 here.1 here.2 (omega arith)
    in (ap length c.put-at.ensures.1 ∙ simp length-sets here.0, more.0, more.1)

pub returns-clause-value : goal.returns-clause-value
returns-clause-value c =
    let corners : List ℕ = c.args.corners.now in
    omega (arith, c.loop-x.invariant.1, ap length (coordinates-done corners c.loop-x.x-index (omega arith)))

pub returns-clause-out_after : goal.returns-clause-out_after
returns-clause-out_after c = put-done _ _ c.loop-x.x-index _ _ c.loop-x.invariant.2 (omega arith)
