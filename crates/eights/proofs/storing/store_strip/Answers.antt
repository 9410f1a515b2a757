-- `eights::storing::store_strip` meets its contract: the pieces before the e-th are stored. Assumes nothing.
use Prim.Native.Nat.{◌*◌}
use mathlib.Core.Path.{◌∙◌, ap}
use native.Mathlib.Omega.{arith}
use Rattle.table.proofs.Run.{wrote_more}
use Rattle.eights.proofs.Rows.{scaled_at}
use Rattle.eights.proofs.storing.store_strip.Goals as goal

pub loop-e-preserved : goal.loop-e-preserved
loop-e-preserved c = wrote_more _ _ _ _ _ _ (omega (arith, c.loop-e.invariant.long)) (ap (λ n. c.args.weight * n) c.from.ensures ∙ scaled_at c.args.weight c.args.store.now c.args.from c.loop-e.e) c.loop-e.invariant
