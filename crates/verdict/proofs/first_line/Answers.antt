-- `verdict::first_line` meets its contract. The loop's invariant: the two entries are those of the parts at j, and
-- no line passed has the cost. Assumes nothing.
use Prim.Native.Nat.{◌<◌, ◌+◌}
use mathlib.Core.Path.{sym, ◌∙◌}
use native.Mathlib.Omega.{arith}
use lib.ListN.{length}
use Rattle.verdict.proofs.Search.{passed_none, passed-more, first-here, first-none}
use Rattle.verdict.proofs.Across.{entry-within, stride_few, lower-first, at_first, at_next, upper-at, lower-within, upper-within, across-at, across-small}
use Rattle.verdict.proofs.first_line.Goals as goal

pub overflow_mul-lower : goal.overflow_mul-lower
overflow_mul-lower c = omega (arith, stride_few _ _ c.requires c.args.cuts.high.0 (c.args.cuts.low.0 + 1) (omega (arith, c.requires)))

pub overflow_sub-lower-2 : goal.overflow_sub-lower-2
overflow_sub-lower-2 c = lower-first _ _ c.requires

pub overflow_mul-upper : goal.overflow_mul-upper
overflow_mul-upper c = omega (arith, stride_few _ _ c.requires c.args.cuts.last (c.args.cuts.low.0 + 1) (omega (arith, c.requires)))

pub overflow_add-upper : goal.overflow_add-upper
overflow_add-upper c = omega (arith, entry-within _ _ c.requires, c.well_formed.0, stride_few _ _ c.requires c.args.cuts.last (c.args.cuts.low.0 + 1) (omega (arith, c.requires)))

pub loop-j-init : goal.loop-j-init
loop-j-init c = (at_first _ _ c.requires, passed_none _ _)

pub offset_bounds-table-lower : goal.offset_bounds-table-lower
offset_bounds-table-lower c =
    let lower_in : c.loop-j.lower < length c.args.table.now = lower-within _ _ c.requires _ _ _ c.loop-j.invariant.0 c.loop-j-test.true in
    omega (arith, lower_in)

pub bounds-table-lower : goal.bounds-table-lower
bounds-table-lower c =
    let lower_in : c.loop-j.lower < length c.args.table.now = lower-within _ _ c.requires _ _ _ c.loop-j.invariant.0 c.loop-j-test.true in
    lower_in

pub offset_bounds-table-upper : goal.offset_bounds-table-upper
offset_bounds-table-upper c =
    let upper_in : c.loop-j.upper < length c.args.table.now = upper-within _ _ c.requires _ _ _ c.loop-j.invariant.0 c.loop-j-test.true in
    omega (arith, upper_in)

pub bounds-table-upper : goal.bounds-table-upper
bounds-table-upper c =
    let upper_in : c.loop-j.upper < length c.args.table.now = upper-within _ _ c.requires _ _ _ c.loop-j.invariant.0 c.loop-j-test.true in
    upper_in

pub overflow_add-table : goal.overflow_add-table
overflow_add-table c =
    record {
      fits = across-small _ _ c.requires _ _ _ c.loop-j.invariant.0 c.loop-j-test.true;
    }

pub returns-then-table-lower : goal.returns-then-table-lower
returns-then-table-lower c =
    let e = across-at _ _ c.requires _ _ _ c.loop-j.invariant.0 c.loop-j-test.true in
    record {
      first = first-here _ _ _ _ (omega (arith, c.loop-j.invariant.0)) c.loop-j-test.true c.loop-j.invariant.1 (sym e ∙ c.if-table-lower.true);
      below = c.loop-j-test.true;
      lower = c.loop-j.invariant.0.lower;
      upper = upper-at _ _ c.requires _ _ _ c.loop-j.invariant.0 c.loop-j-test.true;
    }

pub overflow_add-lower : goal.overflow_add-lower
overflow_add-lower c =
    let lower_in : c.loop-j.lower < length c.args.table.now = lower-within _ _ c.requires _ _ _ c.loop-j.invariant.0 c.loop-j-test.true in
    omega (arith, lower_in, c.well_formed.0, c.requires)

pub overflow_sub-upper-in-loop-j : goal.overflow_sub-upper-in-loop-j
overflow_sub-upper-in-loop-j c = omega (arith, c.loop-j-test.true, c.requires)

pub overflow_mul-upper-in-loop-j : goal.overflow_mul-upper-in-loop-j
overflow_mul-upper-in-loop-j c = omega (arith, stride_few _ _ c.requires c.args.cuts.last (c.loop-j.j + 1) (omega (arith, c.requires)))

pub overflow_add-upper-in-loop-j-2 : goal.overflow_add-upper-in-loop-j-2
overflow_add-upper-in-loop-j-2 c =
    let upper_in : c.loop-j.upper < length c.args.table.now = upper-within _ _ c.requires _ _ _ c.loop-j.invariant.0 c.loop-j-test.true in
    omega (
      arith,
      upper_in,
      c.well_formed.0,
      stride_few _ _ c.requires c.args.cuts.last (c.loop-j.j + 1) (omega (arith, c.requires)),
    )

pub loop-j-preserved : goal.loop-j-preserved
loop-j-preserved c = (
  at_next _ _ c.requires _ _ _ c.loop-j.invariant.0 c.loop-j-test.true,
  passed-more _ _ _ c.loop-j.invariant.1 (λ q. c.if-table-lower.false (across-at _ _ c.requires _ _ _ c.loop-j.invariant.0 c.loop-j-test.true ∙ q)),
)

pub returns : goal.returns
returns c = first-none _ _ _ _ (omega (arith, c.requires)) (omega arith) (omega arith) (λ k u v. c.loop-j.invariant.1 k u (omega arith))
