-- `table::runs::weigh_apart` meets its contract: the pieces before the i-th have the cut weighed. Assumes nothing.
use native.Mathlib.Omega.{arith}
use Rattle.table.proofs.Run.{apart_more}
use Rattle.table.proofs.runs.weigh_apart.Goals as goal

pub loop-i-preserved : goal.loop-i-preserved
loop-i-preserved c = apart_more _ _ c.loop-i.best _ _ c.args.n c.loop-i.i _ c.requires.n_in_bounds.0 (omega arith) c.min.ensures c.loop-i.invariant
