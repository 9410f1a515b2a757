-- `cif::numeral::put_number` meets its contract. Assumes nothing.
use lib.ListN.{length}
use native.Mathlib.Omega.{arith}
use mathlib.Core.Path.{ap}
use lib.Seq.{length-sets}
use Rattle.cif.proofs.Decimal.{decimal-some}
use Rattle.cif.proofs.Putting.{put_small, put-more, split_length}
use Rattle.cif.proofs.numeral.+put_number.Goals as goal

pub bounds-out-at : goal.bounds-out-at
bounds-out-at t c = omega (arith, decimal-some c.args.n c.requires.0, c.requires.1)

pub returns-then-n-lt10 : goal.returns-then-n-lt10
returns-then-n-lt10 t c = put_small _ _ _ (omega arith)

pub put_number-last-requires : goal.put_number-last-requires
put_number-last-requires t c = (
  omega arith,
  (omega (arith, c.requires.0), omega (arith, c.requires.1, split_length c.args.out.now c.args.at c.args.n (omega arith) c.requires.0)),
)

pub bounds-out-last : goal.bounds-out-last
bounds-out-last t c =
    omega (
      arith,
      c.requires.1,
      split_length c.args.out.now c.args.at c.args.n (omega arith) c.requires.0,
      c.put_number-last.ensures.0,
      (simp length-sets at (ap length c.put_number-last.ensures.1)),
    )

pub overflow_add-result-2 : goal.overflow_add-result-2
overflow_add-result-2 t c =
    omega (
      arith,
      c.requires.1,
      split_length c.args.out.now c.args.at c.args.n (omega arith) c.requires.0,
      c.put_number-last.ensures.0,
    )

pub returns : goal.returns
returns t c = put-more _ _ _ (omega arith) c.requires.0 _ _ c.put_number-last.ensures.0 c.put_number-last.ensures.1
