-- `put_parts` meets its contract: each run stands behind the one before it. Assumes nothing.
use mathlib.Core.Path.{refl, ap}
use native.Mathlib.Omega.{arith}
use lib.ListN.{length}
use lib.Seq.{length-sets}
use Rattle.index.proofs.Anew.{parts-length, parts-put}
use Rattle.index.proofs.changing.put_parts.Goals as goal

pub put-requires : goal.put-requires
put-requires c = omega (arith, parts-length c.args.head.now c.args.front.now c.args.back.now)

pub put-requires-2 : goal.put-requires-2
put-requires-2 c = omega (arith, parts-length c.args.head.now c.args.front.now c.args.back.now, simp length-sets at (ap length c.put.ensures))

pub put-requires-3 : goal.put-requires-3
put-requires-3 c =
    omega (
      arith,
      parts-length c.args.head.now c.args.front.now c.args.back.now,
      simp length-sets at (ap length c.put.ensures),
      simp length-sets at (ap length c.put-2.ensures),
    )

pub returns : goal.returns
returns c = parts-put c.args.head.now c.args.front.now c.args.back.now c.args.out.now _ _ _ refl refl c.put.ensures c.put-2.ensures c.put-3.ensures
