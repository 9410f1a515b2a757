-- `lowering::least_cut` meets its contract. The loop's invariant: the two entries are those of the parts at j, and what is kept is the least of
-- the lines passed. Assumes nothing.
use Prim.Native.Nat.{◌<◌, ◌≤◌, ◌+◌, ◌*◌, ◌-◌}
use native.Mathlib.Omega.{arith}
use lib.ListN.{length}
use Rattle.table.proofs.Run.{lowest-none}
use Rattle.verdict.proofs.Across.{entry-within, stride_few, lower-first, at_first, at_next, lower-within, upper-within, across-at, across-small}
use Rattle.lowering.proofs.Costs.{lowest-next, lowest-end}
use Rattle.lowering.proofs.least_cut.Goals as goal

pub overflow_mul-lower : goal.overflow_mul-lower
overflow_mul-lower c = omega (arith, stride_few _ _ c.requires c.args.cuts.high.0 (c.args.cuts.low.0 + 1) (omega (arith, c.requires)))

pub overflow_sub-lower-2 : goal.overflow_sub-lower-2
overflow_sub-lower-2 c = lower-first _ _ c.requires

pub overflow_mul-upper : goal.overflow_mul-upper
overflow_mul-upper c = omega (arith, stride_few _ _ c.requires c.args.cuts.last (c.args.cuts.low.0 + 1) (omega (arith, c.requires)))

pub overflow_add-upper : goal.overflow_add-upper
overflow_add-upper c =
    omega (
      arith,
      entry-within _ _ c.requires,
      c.well_formed.0,
      stride_few _ _ c.requires c.args.cuts.last (c.args.cuts.low.0 + 1) (omega (arith, c.requires)),
    )

pub loop-j-init : goal.loop-j-init
loop-j-init c = (at_first _ _ c.requires, lowest-none _ _ _)

pub offset_bounds-table-lower : goal.offset_bounds-table-lower
offset_bounds-table-lower c =
    let lower_in : c.loop-j.lower < length c.args.table.now = lower-within _ _ c.requires _ _ _ c.loop-j.invariant.0 c.loop-j-test.true in
    omega (arith, lower_in)

pub bounds-table-lower : goal.bounds-table-lower
bounds-table-lower c =
    let lower_in : c.loop-j.lower < length c.args.table.now = lower-within _ _ c.requires _ _ _ c.loop-j.invariant.0 c.loop-j-test.true in
    lower_in

pub offset_bounds-table-upper : goal.offset_bounds-table-upper
offset_bounds-table-upper c =
    let upper_in : c.loop-j.upper < length c.args.table.now = upper-within _ _ c.requires _ _ _ c.loop-j.invariant.0 c.loop-j-test.true in
    omega (arith, upper_in)

pub bounds-table-upper : goal.bounds-table-upper
bounds-table-upper c =
    let upper_in : c.loop-j.upper < length c.args.table.now = upper-within _ _ c.requires _ _ _ c.loop-j.invariant.0 c.loop-j-test.true in
    upper_in

pub overflow_add-table : goal.overflow_add-table
overflow_add-table c = record { fits = across-small _ _ c.requires _ _ _ c.loop-j.invariant.0 c.loop-j-test.true }

pub overflow_add-lower : goal.overflow_add-lower
overflow_add-lower c =
    let lower_in : c.loop-j.lower < length c.args.table.now = lower-within _ _ c.requires _ _ _ c.loop-j.invariant.0 c.loop-j-test.true in
    omega (arith, lower_in, c.well_formed.0, c.requires)

pub overflow_sub-upper-in-loop-j : goal.overflow_sub-upper-in-loop-j
overflow_sub-upper-in-loop-j c = omega (arith, c.loop-j-test.true, c.requires)

pub overflow_mul-upper-in-loop-j : goal.overflow_mul-upper-in-loop-j
overflow_mul-upper-in-loop-j c =
    let next-few : c.args.cuts.stride * (c.args.cuts.last - (c.loop-j.j + 1)) ≤ 3375 = stride_few _ _ c.requires c.args.cuts.last (c.loop-j.j + 1) (omega (arith, c.requires)) in
    omega (arith, next-few)

pub overflow_add-upper-in-loop-j-2 : goal.overflow_add-upper-in-loop-j-2
overflow_add-upper-in-loop-j-2 c =
    let upper_in : c.loop-j.upper < length c.args.table.now = upper-within _ _ c.requires _ _ _ c.loop-j.invariant.0 c.loop-j-test.true in
    let next-few : c.args.cuts.stride * (c.args.cuts.last - (c.loop-j.j + 1)) ≤ 3375 = stride_few _ _ c.requires c.args.cuts.last (c.loop-j.j + 1) (omega (arith, c.requires)) in
    omega (arith, upper_in, c.well_formed.0, next-few)

pub loop-j-preserved : goal.loop-j-preserved
loop-j-preserved c = (
  at_next _ _ c.requires _ _ _ c.loop-j.invariant.0 c.loop-j-test.true,
  lowest-next _ _ _ _ _ _ _ c.loop-j.invariant.0.above (across-at _ _ c.requires _ _ _ c.loop-j.invariant.0 c.loop-j-test.true) c.min-least.ensures c.loop-j.invariant.1,
)

pub returns : goal.returns
returns c = lowest-end _ _ _ _ _ _ (omega (arith, c.requires)) (omega arith) c.loop-j.invariant.1
