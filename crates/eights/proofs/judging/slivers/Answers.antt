-- `eights::judging::slivers` meets its contract: the lanes below l have their sliver lengths. Assumes nothing.
use mathlib.Core.Path.{refl}
use native.Mathlib.Omega.{arith}
use Rattle.eights.proofs.Judge.{sliver-more, sliver-end}
use Rattle.eights.proofs.judging.slivers.Goals as goal

pub loop-l-preserved : goal.loop-l-preserved
loop-l-preserved c = sliver-more _ _ _ _ _ _ _ c.loop-l.l _ _ _ c.loop-l.length-items refl (omega arith) c.both-ends.ensures c.longer.ensures c.loop-l.invariant

pub returns : goal.returns
returns c = record { result_len = c.loop-l.invariant.long; by_index = sliver-end _ _ _ _ _ _ _ c.loop-l.l c.args.level.low c.args.level.high _ _ (omega arith) (omega arith) refl refl c.loop-l.invariant }
