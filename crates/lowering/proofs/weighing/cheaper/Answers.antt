-- `lowering::weighing::cheaper` meets its contract. Assumes nothing.
use native.Mathlib.Omega.{arith}
use Rattle.lowering.proofs.Wheels.{Numbers, first_addable, second_addable, inner_in, cheaper_fits, cheaper_is}
use Rattle.lowering.proofs.weighing.cheaper.Goals as goal

pub four-first-requires : goal.four-first-requires
four-first-requires c =
    let numbers : (Numbers c.args.rows c.args.b c.args.k c.args.m c.args.d c.pair_number-bk.result c.pair_number-bm.result c.pair_number-kd.result c.pair_number-md.result c.pair_number-km.result) = (record {
      bk = c.pair_number-bk.ensures.0;
      bm = c.pair_number-bm.ensures.0;
      kd = c.pair_number-kd.ensures.0;
      md = c.pair_number-md.ensures.0;
      km = c.pair_number-km.ensures.0;
    }) in
    first_addable _ _ _ c.requires.0 c.requires.1 (numbers)

pub overflow_add-s-5 : goal.overflow_add-s-5
overflow_add-s-5 c = record { fits = omega (arith, c.well_formed, c.requires.0.start, c.pair_number-bm.ensures.1) }

pub overflow_add-s-6 : goal.overflow_add-s-6
overflow_add-s-6 c = record { fits = omega (arith, c.well_formed, c.requires.0.right, c.pair_number-bk.ensures.1) }

pub overflow_add-s-7 : goal.overflow_add-s-7
overflow_add-s-7 c = record { fits = omega (arith, c.well_formed, c.requires.0.left, c.pair_number-md.ensures.1) }

pub overflow_add-s-8 : goal.overflow_add-s-8
overflow_add-s-8 c = record { fits = omega (arith, c.well_formed, c.requires.0.end, c.pair_number-kd.ensures.1) }

pub four-second-requires : goal.four-second-requires
four-second-requires c =
    let numbers : (Numbers c.args.rows c.args.b c.args.k c.args.m c.args.d c.pair_number-bk.result c.pair_number-bm.result c.pair_number-kd.result c.pair_number-md.result c.pair_number-km.result) = (record {
      bk = c.pair_number-bk.ensures.0;
      bm = c.pair_number-bm.ensures.0;
      kd = c.pair_number-kd.ensures.0;
      md = c.pair_number-md.ensures.0;
      km = c.pair_number-km.ensures.0;
    }) in
    second_addable _ _ _ c.requires.0 c.requires.1 (numbers)

pub overflow_add-inner : goal.overflow_add-inner
overflow_add-inner c = record { fits = omega (arith, c.well_formed, c.requires.0.middle, c.pair_number-km.ensures.1) }

pub offset_bounds-table-s : goal.offset_bounds-table-s
offset_bounds-table-s c = record { fits = omega (arith, c.well_formed, c.requires.0.middle, c.pair_number-km.ensures.1) }

pub bounds-table-s : goal.bounds-table-s
bounds-table-s c =
    let numbers : (Numbers c.args.rows c.args.b c.args.k c.args.m c.args.d c.pair_number-bk.result c.pair_number-bm.result c.pair_number-kd.result c.pair_number-md.result c.pair_number-km.result) = (record {
      bk = c.pair_number-bk.ensures.0;
      bm = c.pair_number-bm.ensures.0;
      kd = c.pair_number-kd.ensures.0;
      md = c.pair_number-md.ensures.0;
      km = c.pair_number-km.ensures.0;
    }) in
    inner_in _ _ _ c.requires.0 c.requires.1 (numbers)

pub overflow_add-result : goal.overflow_add-result
overflow_add-result c =
    let numbers : (Numbers c.args.rows c.args.b c.args.k c.args.m c.args.d c.pair_number-bk.result c.pair_number-bm.result c.pair_number-kd.result c.pair_number-md.result c.pair_number-km.result) = (record {
      bk = c.pair_number-bk.ensures.0;
      bm = c.pair_number-bm.ensures.0;
      kd = c.pair_number-kd.ensures.0;
      md = c.pair_number-md.ensures.0;
      km = c.pair_number-km.ensures.0;
    }) in
    record { fits = cheaper_fits _ _ _ c.requires.0 c.requires.1 (numbers) c.four-first.ensures c.four-second.ensures c.min.ensures }

pub returns : goal.returns
returns c =
    let numbers : (Numbers c.args.rows c.args.b c.args.k c.args.m c.args.d c.pair_number-bk.result c.pair_number-bm.result c.pair_number-kd.result c.pair_number-md.result c.pair_number-km.result) = (record {
      bk = c.pair_number-bk.ensures.0;
      bm = c.pair_number-bm.ensures.0;
      kd = c.pair_number-kd.ensures.0;
      md = c.pair_number-md.ensures.0;
      km = c.pair_number-km.ensures.0;
    }) in
    cheaper_is _ _ _ c.requires.0 c.requires.1 (numbers) c.four-first.ensures c.four-second.ensures c.min.ensures
