-- `widths::lanes::add_flanks` meets its contract: the flanks before the i-th are added. Assumes nothing.
use native.Mathlib.Omega.{arith}
use Rattle.table.proofs.Run.{wrote_none, wrote_end}
use Rattle.widths.proofs.Lane.{flank_fits, flank_more}
use Rattle.widths.proofs.lanes.add_flanks.Goals as goal

pub loop-i-init : goal.loop-i-init
loop-i-init c = (omega arith, wrote_none _ _ _)

pub overflow_add-to : goal.overflow_add-to
overflow_add-to c = record { fits = flank_fits _ _ c.args.to.now c.args.from.now c.loop-i.to _ c.args.n c.loop-i.i _ c.narrow.ensures (omega arith) c.requires.by_index c.loop-i.invariant.1 }

pub loop-i-preserved : goal.loop-i-preserved
loop-i-preserved c = (omega arith, flank_more _ _ _ _ c.loop-i.to _ c.args.n c.loop-i.i _ c.narrow.ensures c.requires.n_in_bounds.0 (omega arith) c.loop-i.invariant.1)

pub returns : goal.returns
returns c = wrote_end _ _ _ _ _ _ c.loop-i.invariant.0 c.loop-i-test.false c.loop-i.invariant.1
