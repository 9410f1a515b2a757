-- `keep` meets its contract: those read so far are read in a row. Assumes nothing.
use native.Mathlib.Omega.{arith}
use Rattle.saving.proofs.Keeping.{keeping_start, keeping_more, keeping_fault, keeping_done}
use Rattle.saving.proofs.keep.Goals as goal

pub loop-n-init : goal.loop-n-init
loop-n-init c = keeping_start _ _

pub returns-in-Err : goal.returns-in-Err
returns-in-Err c = keeping_fault _ _ _ _ c.loop-n.invariant _ c.in-Err.ensures (omega arith)

pub loop-n-preserved : goal.loop-n-preserved
loop-n-preserved c = keeping_more _ _ _ _ c.loop-n.invariant c.in-Ok.ensures

pub returns : goal.returns
returns c = keeping_done _ _ _ _ c.loop-n.invariant _ (omega arith) (omega arith)
