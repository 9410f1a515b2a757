-- `cif::numeral::size` meets its contract. Assumes nothing.
use native.Mathlib.Omega.{arith}
use Rattle.cif.proofs.Decimal.{tens, size_small, size_of}
use Rattle.cif.proofs.numeral.size.Goals as goal

pub returns-then-n-lt10 : goal.returns-then-n-lt10
returns-then-n-lt10 c = size_small _ (omega arith)

pub returns-then-n-lt100 : goal.returns-then-n-lt100
unfolding tens
returns-then-n-lt100 c = size_of 1 _ (omega arith) (omega arith) (omega arith)

pub returns-then-n-lt1000 : goal.returns-then-n-lt1000
unfolding tens
returns-then-n-lt1000 c = size_of 2 _ (omega arith) (omega arith) (omega arith)

pub returns-then-n-lt10000 : goal.returns-then-n-lt10000
unfolding tens
returns-then-n-lt10000 c = size_of 3 _ (omega arith) (omega arith) (omega arith)

pub returns-then-n-lt100000 : goal.returns-then-n-lt100000
unfolding tens
returns-then-n-lt100000 c = size_of 4 _ (omega arith) (omega arith) (omega arith)

pub returns : goal.returns
unfolding tens
returns c = size_of 5 _ (omega arith) (omega arith) (omega arith)
