-- `value` meets its contract: each exit is a case of the definition's `value`. Assumes nothing.
use mathlib.Core.Path.{sym}
use native.Mathlib.Omega.{arith}
use Rattle.number.specs.Number.{read_told}
use Rattle.number.proofs.Number.{passed}
use Rattle.number.proofs.Bytes.{number-onward}
use Rattle.job.proofs.Job.{value-fault, value-under, value-over, value_in}
use Rattle.job.proofs.read.value.Goals as goal
use Rattle.job.proofs.read.value.Goals.{then-read-low-via-then-read-low, then-read-low-via-else-read-low+then-high-read}

pub returns-in_err-read : goal.returns-in_err-read
returns-in_err-read c = passed read_told c.from_residual.ensures.1 (value-fault _ _ _ _ c.in_err-read.ensures.settled)

-- a number has a last byte
pub overflow_sub-last : goal.overflow_sub-last
overflow_sub-last c = let e = c.in_ok-read.ensures.settled in omega (arith, number-onward _ _ (sym e))

pub returns-then-read-low : goal.returns-then-read-low
returns-then-read-low c =
    let e = c.in_ok-read.ensures.settled in
    rw c.at.ensures
    (elim c.then-read-low.branch [
      | then-read-low-via-then-read-low w ↦ value-under _ _ _ _ e (omega (arith, w.if-read-low.true))
      | then-read-low-via-else-read-low+then-high-read w ↦ value-over _ _ _ _ e (omega (arith, w.if-read-low.false)) (omega (arith, w.if-high-read.true))
    ])

pub returns : goal.returns
returns c = value_in _ _ _ _ c.in_ok-read.ensures.settled (omega arith) (omega arith)
