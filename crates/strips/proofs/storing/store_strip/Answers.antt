-- `strips::storing::store_strip` meets its contract: the pieces before the e-th are stored. Assumes nothing.
use native.Mathlib.Omega.{arith}
use Rattle.table.proofs.Run.{wrote_none, wrote_more, wrote_end}
use Rattle.strips.proofs.Store.{lane_at}
use Rattle.strips.proofs.storing.store_strip.Goals as goal

pub loop-e-init : goal.loop-e-init
loop-e-init c = (omega arith, wrote_none _ _ _)

pub loop-e-preserved : goal.loop-e-preserved
loop-e-preserved c = (omega arith, wrote_more _ _ _ _ _ _ (omega (arith, c.loop-e.invariant.1.long)) (lane_at c.args.side.now c.args.a c.loop-e.e) c.loop-e.invariant.1)

pub returns : goal.returns
returns c = wrote_end _ _ _ _ _ _ c.loop-e.invariant.0 c.loop-e-test.false c.loop-e.invariant.1
