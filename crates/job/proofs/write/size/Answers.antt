-- `size` meets its contract. Assumes nothing.
use native.Mathlib.Omega.{arith}
use Rattle.job.proofs.Writing.{size-one, size-two, size-three}
use Rattle.job.proofs.write.size.Goals as goal

pub returns-then-n-lt128 : goal.returns-then-n-lt128
returns-then-n-lt128 c = (size-one _ (omega arith), omega arith)

pub returns-then-n-lt16384 : goal.returns-then-n-lt16384
returns-then-n-lt16384 c = (size-two _ (omega arith) (omega arith), omega arith)

pub returns : goal.returns
returns c = (size-three _ (omega arith), omega arith)
