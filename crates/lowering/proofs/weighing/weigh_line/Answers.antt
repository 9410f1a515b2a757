-- `lowering::weighing::weigh_line` meets its contract: the pinwheels with an upper x line below l are weighed. Assumes nothing.
use Prim.Native.Nat.{◌+◌, ◌*◌}
use mathlib.Core.Path.{◌∙◌}
use native.Mathlib.Omega.{arith}
use Rattle.lowering.specs.Lowered.{OfLines}
use Rattle.lowering.proofs.Weighed.{among_none, among-more}
use Rattle.lowering.proofs.Wheels.{Stands, stands, row_fits, placed_in, lines-lower, line-end}
use Rattle.lowering.proofs.weighing.weigh_line.Goals as goal

pub pair_number-requires : goal.pair_number-requires
pair_number-requires c = (c.requires.weighable.columns-most, (c.requires.pairs_value.1.1.0, omega (arith, c.requires.pairs_value.1.1.1, c.requires.weighable.cx)))

pub overflow_mul-start : goal.overflow_mul-start
overflow_mul-start c = row_fits c.requires.weighable.rows-most c.requires.pairs_value.0 c.pair_number.ensures.1

pub pair_number-requires-2 : goal.pair_number-requires-2
pair_number-requires-2 c = (c.requires.weighable.columns-most, (c.requires.pairs_value.1.1.1, c.requires.weighable.cx))

pub overflow_mul-right : goal.overflow_mul-right
overflow_mul-right c = row_fits c.requires.weighable.rows-most c.requires.pairs_value.0 c.pair_number-2.ensures.1

pub loop-l-init : goal.loop-l-init
loop-l-init c = (omega arith, (omega (arith, c.requires.pairs_value.1.1.1), among_none _ _ _ _ (omega arith)))

pub pair_number-requires-in-loop-l : goal.pair_number-requires-in-loop-l
pair_number-requires-in-loop-l c = (c.requires.weighable.columns-most, (omega (arith, c.loop-l.invariant.0, c.requires.pairs_value.1.1.0), omega (arith, c.loop-l.invariant.1.0, c.requires.weighable.cx)))

pub overflow_mul-left : goal.overflow_mul-left
overflow_mul-left c = row_fits c.requires.weighable.rows-most c.requires.pairs_value.0 c.pair_number-in-loop-l.ensures.1

pub pair_number-requires-in-loop-l-2 : goal.pair_number-requires-in-loop-l-2
pair_number-requires-in-loop-l-2 c = (c.requires.weighable.columns-most, (c.loop-l-test.true, c.requires.weighable.cx))

pub overflow_mul-end : goal.overflow_mul-end
overflow_mul-end c = row_fits c.requires.weighable.rows-most c.requires.pairs_value.0 c.pair_number-in-loop-l-2.ensures.1

pub pair_number-requires-in-loop-l-3 : goal.pair_number-requires-in-loop-l-3
pair_number-requires-in-loop-l-3 c = (c.requires.weighable.columns-most, (omega (arith, c.loop-l.invariant.0), omega (arith, c.loop-l.invariant.1.0, c.requires.weighable.cx)))

pub overflow_mul-middle : goal.overflow_mul-middle
overflow_mul-middle c = row_fits c.requires.weighable.rows-most c.requires.pairs_value.0 c.pair_number-in-loop-l-3.ensures.1

pub weigh_rows-requires : goal.weigh_rows-requires
weigh_rows-requires c =
    let standing : (Stands c.args.columns c.args.rows c.args.a.0 c.args.c.0 c.args.j.0 c.loop-l.l
    (record {
      start = c.pair_number.result * c.args.pairs;
      middle = c.pair_number-in-loop-l-3.result * c.args.pairs;
      end = c.pair_number-in-loop-l-2.result * c.args.pairs;
      left = c.pair_number-in-loop-l.result * c.args.pairs;
      right = c.pair_number-2.result * c.args.pairs;
    })) = stands _ _ _ _ _ _ _ c.requires.pairs_value.0 c.pair_number.ensures.0 c.pair_number-in-loop-l-3.ensures.0 c.pair_number-in-loop-l-2.ensures.0 c.pair_number-in-loop-l.ensures.0 c.pair_number-2.ensures.0 in (
      placed_in _ _ _ _ _ (standing) c.requires.weighable c.requires.pairs_value.1.1.0 (omega (arith, c.loop-l.invariant.0)) c.loop-l-test.true,
      (c.requires.weighable.rows-some, c.loop-l.invariant.1.1.long ∙ c.requires.pairs_value.1.0),
    )

pub loop-l-smaller : goal.loop-l-smaller
loop-l-smaller c = omega (arith, c.loop-l-test.true)

pub loop-l-preserved : goal.loop-l-preserved
loop-l-preserved c =
    let standing : (Stands c.args.columns c.args.rows c.args.a.0 c.args.c.0 c.args.j.0 c.loop-l.l
    (record {
      start = c.pair_number.result * c.args.pairs;
      middle = c.pair_number-in-loop-l-3.result * c.args.pairs;
      end = c.pair_number-in-loop-l-2.result * c.args.pairs;
      left = c.pair_number-in-loop-l.result * c.args.pairs;
      right = c.pair_number-2.result * c.args.pairs;
    })) = stands _ _ _ _ _ _ _ c.requires.pairs_value.0 c.pair_number.ensures.0 c.pair_number-in-loop-l-3.ensures.0 c.pair_number-in-loop-l-2.ensures.0 c.pair_number-in-loop-l.ensures.0 c.pair_number-2.ensures.0 in (
      omega (arith, c.loop-l.invariant.0),
      (
        omega (arith, c.loop-l-test.true),
        among-more (c.args.j.0 + 1) c.loop-l.l (OfLines c.args.table.now c.args.columns c.args.rows c.args.a.0 c.args.c.0 c.args.j.0) c.args.best.now c.loop-l.best _ c.loop-l.invariant.0 c.loop-l.invariant.1.1
            (lines-lower _ _ _ _ _ (standing) c.weigh_rows.ensures),
      ),
    )

pub returns : goal.returns
returns c = line-end _ _ _ _ _ _ _ c.loop-l.invariant.1.0 c.loop-l-test.false c.loop-l.invariant.1.1
