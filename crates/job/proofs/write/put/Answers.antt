-- `put` meets its contract: the stores are those of the number's bytes. Assumes nothing.
use native.Mathlib.Omega.{arith}
use lib.ListN.{length-set}
use Rattle.number.proofs.Bytes.{bytes-length}
use Rattle.job.proofs.Writing.{size-two, size-three, put_one, put_two, put_three}
use Rattle.job.proofs.write.put.Goals as goal

pub bounds-out-at : goal.bounds-out-at
bounds-out-at c = omega (arith, bytes-length c.args.n)

pub returns-then-n-lt128 : goal.returns-then-n-lt128
returns-then-n-lt128 c = put_one _ _ _ (omega arith)

pub bounds-out-at-2 : goal.bounds-out-at-2
bounds-out-at-2 c = omega (arith, bytes-length c.args.n)

pub bounds-out-at-then-n-lt16384 : goal.bounds-out-at-then-n-lt16384
bounds-out-at-then-n-lt16384 c = simp length-set (omega (arith, size-two c.args.n (omega arith) (omega arith)))

pub returns-then-n-lt16384 : goal.returns-then-n-lt16384
returns-then-n-lt16384 c = put_two _ _ _ (omega arith) (omega arith)

pub bounds-out-at-3 : goal.bounds-out-at-3
bounds-out-at-3 c = simp length-set (omega (arith, size-three c.args.n (omega arith)))

pub bounds-out-at-4 : goal.bounds-out-at-4
bounds-out-at-4 c = simp length-set (omega (arith, size-three c.args.n (omega arith)))

pub returns : goal.returns
returns c = put_three _ _ _ (omega arith)
