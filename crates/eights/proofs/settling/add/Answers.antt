-- `eights::settling::add` meets its contract: the numbers of the lanes below l are added. Assumes nothing.
use native.Mathlib.Omega.{arith}
use Rattle.eights.proofs.Judge.{add-more}
use Rattle.eights.proofs.settling.add.Goals as goal

pub loop-l-preserved : goal.loop-l-preserved
loop-l-preserved c = add-more _ _ c.loop-l.to _ c.loop-l.l _ c.requires.0 (omega arith) c.both.ensures c.loop-l.invariant
