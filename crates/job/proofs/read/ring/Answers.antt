-- `ring` meets its contract: by its V, and then by its coordinates. Assumes nothing.
use mathlib.Core.Path.{sym}
use native.Mathlib.Omega.{arith}
use Rattle.number.specs.Number.{read_told}
use Rattle.number.proofs.Number.{passed}
use Rattle.job.proofs.Job.{value_read, sized-V, sized-fault, sized-read}
use Rattle.job.proofs.read.ring.Goals as goal

pub returns-in_err-v : goal.returns-in_err-v
returns-in_err-v c = passed read_told c.from_residual.ensures.1 (sized-V _ _ _ c.in_err-v.ensures)

pub overflow_mul-v : goal.overflow_mul-v
overflow_mul-v c = omega (arith, (value_read _ 4 _ _ (sym c.in_ok-v.ensures)).2)

pub returns-in_err-end : goal.returns-in_err-end
returns-in_err-end c =
    passed read_told c.from_residual-in_err-end.ensures.1 (sized-fault _ _ _ c.in_ok-v.ensures c.in_err-end.ensures)

pub returns : goal.returns
returns c = sized-read _ _ _ c.in_ok-v.ensures c.in_ok-end.ensures
