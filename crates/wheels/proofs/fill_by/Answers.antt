-- `wheels::fill_by` meets its contract: all strips narrower than w are filled, and in the pinwheel mode kept. Assumes nothing.
use Rattle.std.proofs.Common.{◌-◌, ◌≤◌, sym, refl, ◌∙◌, arith}
use Rattle.table.proofs.Fill.{fill_limits}
use Rattle.table.proofs.Pairs.{row-most}
use Rattle.tally.proofs.Sums.{grown-none, grown-next}
use Rattle.tally.proofs.Growth.{growable_at, grown-at}
use Rattle.tally.proofs.Shares.{rising-at, widths-at}
use Rattle.widths.proofs.Fill.{state_none, laid-here, asks_weigh, asks_settle, told-width, state_all}
use Rattle.wheels.proofs.Costs.{kept-none}
use Rattle.wheels.proofs.Filling.{asks_by, start-by, asks_keep_by, kept_by, room_at}
use Rattle.wheels.proofs.fill_by.Goals as goal

pub pair_count-pairs-requires : goal.pair_count-pairs-requires
pair_count-pairs-requires c = (fill_limits c.args.columns c.args.rows c.args.xs.now c.args.ys.now c.args.cells.now c.args.rule c.args.table.now c.requires.ready).1.1.1

pub measure-requires : goal.measure-requires
measure-requires c = record { laid = laid-here c.args.columns c.args.rows c.args.xs.now c.args.ys.now c.args.cells.now c.args.rule c.args.table.now c.requires.ready; unit_value = refl }

pub loop-w-init : goal.loop-w-init
loop-w-init c = (omega arith, (omega (arith, fill_limits c.args.columns c.args.rows c.args.xs.now c.args.ys.now c.args.cells.now c.args.rule c.args.table.now c.requires.ready), (refl, (grown-none _ c.requires.ready.sound, (state_none _ _ _ _, (λ q. kept-none _ _ _ _ _ (room_at _ c.args.rows _ _ c.pair_count-pairs.ensures.0 (c.requires.rows_in_bounds q)), refl))))))

pub overflow_add-w-end : goal.overflow_add-w-end
overflow_add-w-end c = record { fits = omega (arith, fill_limits c.args.columns c.args.rows c.args.xs.now c.args.ys.now c.args.cells.now c.args.rule c.args.table.now c.requires.ready) }

pub overflow_add-count : goal.overflow_add-count
overflow_add-count c = record { fits = omega (arith, fill_limits c.args.columns c.args.rows c.args.xs.now c.args.ys.now c.args.cells.now c.args.rule c.args.table.now c.requires.ready) }

pub overflow_sub-count : goal.overflow_sub-count
overflow_sub-count c = omega (arith, c.loop-w.invariant.1.0)

pub grow-requires : goal.grow-requires
grow-requires c =
    let m : c.loop-w.w ≤ c.args.columns = omega (arith, c.loop-w-test.true) in
    growable_at c.args.columns c.args.rows c.args.xs.now c.args.ys.now c.args.cells.now (laid-here c.args.columns c.args.rows c.args.xs.now c.args.ys.now c.args.cells.now c.args.rule c.args.table.now c.requires.ready) _ c.measure.ensures c.loop-w.w c.loop-w.invariant.0 m c.loop-w.sums c.loop-w.invariant.1.1.1.0

pub widths-requires : goal.widths-requires
widths-requires c =
    let m : c.loop-w.w ≤ c.args.columns = omega (arith, c.loop-w-test.true) in
    (c.loop-w.invariant.1.1.0, rising-at c.args.columns c.args.rows c.args.xs.now c.args.ys.now c.args.cells.now (laid-here c.args.columns c.args.rows c.args.xs.now c.args.ys.now c.args.cells.now c.args.rule c.args.table.now c.requires.ready) c.loop-w.w m)

pub weigh_strips-requires : goal.weigh_strips-requires
weigh_strips-requires c =
    let m : c.loop-w.w ≤ c.args.columns = omega (arith, c.loop-w-test.true) in
    record { columns_bound = (asks_weigh c.args.mode c.args.columns c.args.rows c.args.xs.now c.args.ys.now c.args.cells.now c.args.rule c.args.table.now c.requires.ready c.loop-w.w c.loop-w.invariant.0 m c.loop-w.table c.loop-w.side c.loop-w.invariant.1.1.1.1.0 _ c.pair_count-pairs.ensures.0).0; le_w = (asks_weigh c.args.mode c.args.columns c.args.rows c.args.xs.now c.args.ys.now c.args.cells.now c.args.rule c.args.table.now c.requires.ready c.loop-w.w c.loop-w.invariant.0 m c.loop-w.table c.loop-w.side c.loop-w.invariant.1.1.1.1.0 _ c.pair_count-pairs.ensures.0).1.0; by_index = (asks_weigh c.args.mode c.args.columns c.args.rows c.args.xs.now c.args.ys.now c.args.cells.now c.args.rule c.args.table.now c.requires.ready c.loop-w.w c.loop-w.invariant.0 m c.loop-w.table c.loop-w.side c.loop-w.invariant.1.1.1.1.0 _ c.pair_count-pairs.ensures.0).1.1 }

pub slice_bounds-weigh_by-end : goal.slice_bounds-weigh_by-end
slice_bounds-weigh_by-end c =
    let m : c.loop-w.w ≤ c.args.columns = omega (arith, c.loop-w-test.true) in
    sym (c.weigh_strips.ensures.long ∙ c.loop-w.invariant.1.1.1.1.0.side-long)

pub weigh_by-requires : goal.weigh_by-requires
weigh_by-requires c =
    let m : c.loop-w.w ≤ c.args.columns = omega (arith, c.loop-w-test.true) in
    asks_by c.args.mode c.args.columns c.args.rows c.args.xs.now c.args.ys.now c.args.cells.now c.args.rule c.args.table.now c.requires.ready c.loop-w.w c.loop-w.invariant.0 m c.loop-w.table c.loop-w.side c.loop-w.invariant.1.1.1.1.0 _ c.pair_count-pairs.ensures.0 c.loop-w.store c.loop-w.invariant.1.1.1.1.1.0 _ refl _ c.weigh_strips.ensures

pub slice_bounds-settle-end : goal.slice_bounds-settle-end
slice_bounds-settle-end c =
    let m : c.loop-w.w ≤ c.args.columns = omega (arith, c.loop-w-test.true) in
    sym (c.weigh_by.ensures.long ∙ c.weigh_strips.ensures.long ∙ c.loop-w.invariant.1.1.1.1.0.side-long)

pub slice_bounds-settle-end-in-loop-w : goal.slice_bounds-settle-end-in-loop-w
slice_bounds-settle-end-in-loop-w c =
    let m : c.loop-w.w ≤ c.args.columns = omega (arith, c.loop-w-test.true) in
    let grown = grown-at c.args.columns c.args.rows c.args.xs.now c.args.ys.now c.args.cells.now (laid-here c.args.columns c.args.rows c.args.xs.now c.args.ys.now c.args.cells.now c.args.rule c.args.table.now c.requires.ready) _ c.measure.ensures c.loop-w.w c.loop-w.invariant.0 m c.loop-w.sums c.loop-w.invariant.1.1.1.0 _ c.grow.ensures in
    sym grown.0.long

pub slice_bounds-settle-end-in-loop-w-2 : goal.slice_bounds-settle-end-in-loop-w-2
slice_bounds-settle-end-in-loop-w-2 c =
    let m : c.loop-w.w ≤ c.args.columns = omega (arith, c.loop-w-test.true) in
    let wide = widths-at c.args.columns c.args.rows c.args.xs.now c.args.ys.now c.args.cells.now (laid-here c.args.columns c.args.rows c.args.xs.now c.args.ys.now c.args.cells.now c.args.rule c.args.table.now c.requires.ready) c.loop-w.w _ c.widths.ensures in
    sym wide.long

pub overflow_cast-w : goal.overflow_cast-w
overflow_cast-w c =
    let m : c.loop-w.w ≤ c.args.columns = omega (arith, c.loop-w-test.true) in
    record { fits = omega (arith, m, fill_limits c.args.columns c.args.rows c.args.xs.now c.args.ys.now c.args.cells.now c.args.rule c.args.table.now c.requires.ready) }

pub settle-requires : goal.settle-requires
settle-requires c =
    let m : c.loop-w.w ≤ c.args.columns = omega (arith, c.loop-w-test.true) in
    let grown = grown-at c.args.columns c.args.rows c.args.xs.now c.args.ys.now c.args.cells.now (laid-here c.args.columns c.args.rows c.args.xs.now c.args.ys.now c.args.cells.now c.args.rule c.args.table.now c.requires.ready) _ c.measure.ensures c.loop-w.w c.loop-w.invariant.0 m c.loop-w.sums c.loop-w.invariant.1.1.1.0 _ c.grow.ensures in
    let wide = widths-at c.args.columns c.args.rows c.args.xs.now c.args.ys.now c.args.cells.now (laid-here c.args.columns c.args.rows c.args.xs.now c.args.ys.now c.args.cells.now c.args.rule c.args.table.now c.requires.ready) c.loop-w.w _ c.widths.ensures in
    record { measured = (asks_settle c.args.mode c.args.columns c.args.rows c.args.xs.now c.args.ys.now c.args.cells.now c.args.rule c.args.table.now c.requires.ready c.loop-w.w c.loop-w.invariant.0 m c.loop-w.table c.loop-w.side c.loop-w.invariant.1.1.1.1.0 _ c.pair_count-pairs.ensures.0 _ _ grown wide _ (c.weigh_by.ensures.long ∙ c.weigh_strips.ensures.long ∙ c.loop-w.invariant.1.1.1.1.0.side-long) _ refl (start-by c.args.mode c.args.columns c.args.rows c.args.xs.now c.args.ys.now c.args.cells.now c.args.rule c.args.table.now c.requires.ready c.loop-w.w c.loop-w.invariant.0 m c.loop-w.table c.loop-w.side c.loop-w.invariant.1.1.1.1.0 _ c.pair_count-pairs.ensures.0 c.loop-w.store c.loop-w.invariant.1.1.1.1.1.0 _ refl _ _ grown wide _ c.weigh_strips.ensures _ c.weigh_by.ensures)).0; pairs_value = (asks_settle c.args.mode c.args.columns c.args.rows c.args.xs.now c.args.ys.now c.args.cells.now c.args.rule c.args.table.now c.requires.ready c.loop-w.w c.loop-w.invariant.0 m c.loop-w.table c.loop-w.side c.loop-w.invariant.1.1.1.1.0 _ c.pair_count-pairs.ensures.0 _ _ grown wide _ (c.weigh_by.ensures.long ∙ c.weigh_strips.ensures.long ∙ c.loop-w.invariant.1.1.1.1.0.side-long) _ refl (start-by c.args.mode c.args.columns c.args.rows c.args.xs.now c.args.ys.now c.args.cells.now c.args.rule c.args.table.now c.requires.ready c.loop-w.w c.loop-w.invariant.0 m c.loop-w.table c.loop-w.side c.loop-w.invariant.1.1.1.1.0 _ c.pair_count-pairs.ensures.0 c.loop-w.store c.loop-w.invariant.1.1.1.1.1.0 _ refl _ _ grown wide _ c.weigh_strips.ensures _ c.weigh_by.ensures)).1.0; priceable = (asks_settle c.args.mode c.args.columns c.args.rows c.args.xs.now c.args.ys.now c.args.cells.now c.args.rule c.args.table.now c.requires.ready c.loop-w.w c.loop-w.invariant.0 m c.loop-w.table c.loop-w.side c.loop-w.invariant.1.1.1.1.0 _ c.pair_count-pairs.ensures.0 _ _ grown wide _ (c.weigh_by.ensures.long ∙ c.weigh_strips.ensures.long ∙ c.loop-w.invariant.1.1.1.1.0.side-long) _ refl (start-by c.args.mode c.args.columns c.args.rows c.args.xs.now c.args.ys.now c.args.cells.now c.args.rule c.args.table.now c.requires.ready c.loop-w.w c.loop-w.invariant.0 m c.loop-w.table c.loop-w.side c.loop-w.invariant.1.1.1.1.0 _ c.pair_count-pairs.ensures.0 c.loop-w.store c.loop-w.invariant.1.1.1.1.1.0 _ refl _ _ grown wide _ c.weigh_strips.ensures _ c.weigh_by.ensures)).1.1 }

pub slice_bounds-keep_by-end : goal.slice_bounds-keep_by-end
slice_bounds-keep_by-end c =
    let m : c.loop-w.w ≤ c.args.columns = omega (arith, c.loop-w-test.true) in
    sym (c.settle.auto.side ∙ c.weigh_by.ensures.long ∙ c.weigh_strips.ensures.long ∙ c.loop-w.invariant.1.1.1.1.0.side-long)

pub overflow_sub-w : goal.overflow_sub-w
overflow_sub-w c = c.loop-w.invariant.0

pub overflow_mul-w : goal.overflow_mul-w
overflow_mul-w c =
    let m : c.loop-w.w ≤ c.args.columns = omega (arith, c.loop-w-test.true) in
    record { fits = omega (arith, m, row-most (c.loop-w.w - 1) _ (omega (arith, m, fill_limits c.args.columns c.args.rows c.args.xs.now c.args.ys.now c.args.cells.now c.args.rule c.args.table.now c.requires.ready)) c.pair_count-pairs.ensures.1) }

pub overflow_mul-w-in-loop-w : goal.overflow_mul-w-in-loop-w
overflow_mul-w-in-loop-w c =
    let m : c.loop-w.w ≤ c.args.columns = omega (arith, c.loop-w-test.true) in
    record { fits = omega (arith, m, row-most (c.loop-w.w - 1) _ (omega (arith, m, fill_limits c.args.columns c.args.rows c.args.xs.now c.args.ys.now c.args.cells.now c.args.rule c.args.table.now c.requires.ready)) c.pair_count-pairs.ensures.1) }

pub overflow_mul-pairs : goal.overflow_mul-pairs
overflow_mul-pairs c = record { fits = omega (arith, c.pair_count-pairs.ensures.1) }

pub keep_by-requires : goal.keep_by-requires
keep_by-requires c =
    let m : c.loop-w.w ≤ c.args.columns = omega (arith, c.loop-w-test.true) in
    λ q.
    let k = asks_keep_by c.args.mode c.args.columns c.args.rows c.args.xs.now c.args.ys.now c.args.cells.now c.args.rule c.args.table.now c.requires.ready c.loop-w.w c.loop-w.invariant.0 m c.loop-w.table c.loop-w.side c.loop-w.invariant.1.1.1.1.0 _ c.pair_count-pairs.ensures.0 c.loop-w.store c.loop-w.invariant.1.1.1.1.1.0 _ refl q in
    (omega (arith, k.0), omega (arith, k.1, c.settle.auto.side ∙ c.weigh_by.ensures.long ∙ c.weigh_strips.ensures.long ∙ c.loop-w.invariant.1.1.1.1.0.side-long))

pub store_strips-requires : goal.store_strips-requires
store_strips-requires c =
    let m : c.loop-w.w ≤ c.args.columns = omega (arith, c.loop-w-test.true) in
    record { columns_bound = (asks_weigh c.args.mode c.args.columns c.args.rows c.args.xs.now c.args.ys.now c.args.cells.now c.args.rule c.args.table.now c.requires.ready c.loop-w.w c.loop-w.invariant.0 m c.loop-w.table c.loop-w.side c.loop-w.invariant.1.1.1.1.0 _ c.pair_count-pairs.ensures.0).0; le_w = (c.loop-w.invariant.0, m) }

pub loop-w-preserved : goal.loop-w-preserved
loop-w-preserved c =
    let m : c.loop-w.w ≤ c.args.columns = omega (arith, c.loop-w-test.true) in
    let grown = grown-at c.args.columns c.args.rows c.args.xs.now c.args.ys.now c.args.cells.now (laid-here c.args.columns c.args.rows c.args.xs.now c.args.ys.now c.args.cells.now c.args.rule c.args.table.now c.requires.ready) _ c.measure.ensures c.loop-w.w c.loop-w.invariant.0 m c.loop-w.sums c.loop-w.invariant.1.1.1.0 _ c.grow.ensures in
    let wide = widths-at c.args.columns c.args.rows c.args.xs.now c.args.ys.now c.args.cells.now (laid-here c.args.columns c.args.rows c.args.xs.now c.args.ys.now c.args.cells.now c.args.rule c.args.table.now c.requires.ready) c.loop-w.w _ c.widths.ensures in
    let start = (start-by c.args.mode c.args.columns c.args.rows c.args.xs.now c.args.ys.now c.args.cells.now c.args.rule c.args.table.now c.requires.ready c.loop-w.w c.loop-w.invariant.0 m c.loop-w.table c.loop-w.side c.loop-w.invariant.1.1.1.1.0 _ c.pair_count-pairs.ensures.0 c.loop-w.store c.loop-w.invariant.1.1.1.1.1.0 _ refl _ _ grown wide _ c.weigh_strips.ensures _ c.weigh_by.ensures) in (
      omega arith,
      (
        omega (arith, m),
        (
          wide.long,
          (
            grown-next _ _ _ grown.0,
            (
              told-width c.args.mode c.args.columns c.args.rows c.args.xs.now c.args.ys.now c.args.cells.now c.args.rule c.args.table.now c.requires.ready c.loop-w.w c.loop-w.invariant.0 m c.loop-w.table c.loop-w.side c.loop-w.invariant.1.1.1.1.0 _ c.pair_count-pairs.ensures.0 _ _ grown wide _ (c.weigh_by.ensures.long ∙ c.weigh_strips.ensures.long ∙ c.loop-w.invariant.1.1.1.1.0.side-long) _ refl start _ _ c.settle.auto.side c.settle.ensures c.store_strips.ensures,
              (
                kept_by c.args.mode c.args.columns c.args.rows c.args.xs.now c.args.ys.now c.args.cells.now c.args.rule c.args.table.now c.requires.ready c.loop-w.w c.loop-w.invariant.0 m c.loop-w.table c.loop-w.side c.loop-w.invariant.1.1.1.1.0 _ c.pair_count-pairs.ensures.0 c.loop-w.store c.loop-w.invariant.1.1.1.1.1.0 _ refl _ _ _ _ _ start c.settle.ensures c.keep_by.ensures,
                c.keep_by.ensures.long ∙ c.loop-w.invariant.1.1.1.1.1.1,
              ),
            ),
          ),
        ),
      ),
    )

pub returns : goal.returns
returns c = state_all c.args.mode c.args.columns c.args.rows c.args.xs.now c.args.ys.now c.args.cells.now c.args.rule c.args.table.now c.requires.ready c.loop-w.w c.loop-w.table c.loop-w.side (omega (arith, c.loop-w-test.false)) c.loop-w.invariant.1.1.1.1.0
