-- `rings` meets its contract: the corners so far, and the rings still to be read from here, give what the whole gives. Assumes nothing.
use native.Mathlib.Omega.{arith}
use Rattle.number.specs.Number.{read_told}
use Rattle.number.proofs.Number.{passed}
use Rattle.job.proofs.Walking.{counting-start, counting-stop, counting_more, counting-done}
use Rattle.job.proofs.read.rings.Goals as goal

pub loop-init : goal.loop-init
loop-init c = counting-start _ _ _

pub returns-in_err-v : goal.returns-in_err-v
returns-in_err-v c =
    passed read_told c.from_residual.ensures.1 (counting-stop _ _ _ _ _ _ c.loop.invariant (omega arith) c.in_err-v.ensures)

pub overflow_add-total : goal.overflow_add-total
overflow_add-total c =
    let more = counting_more _ _ _ _ _ _ c.loop.invariant (omega arith) c.in_ok-v.ensures in omega (arith, more.few)

pub loop-preserved : goal.loop-preserved
loop-preserved c = counting_more _ _ _ _ _ _ c.loop.invariant (omega arith) c.in_ok-v.ensures

pub returns : goal.returns
returns c = counting-done _ _ _ _ _ _ c.loop.invariant (omega arith)
