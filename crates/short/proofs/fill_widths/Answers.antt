-- `short::fill_widths` meets its contract: all strips narrower than w are filled, and kept in weights. Assumes nothing.
use Prim.Native.Nat.{◌≤◌}
use mathlib.Core.Path.{refl, ◌∙◌}
use native.Mathlib.Omega.{arith}
use Rattle.short.proofs.Filling.{limits, going_none, going_all, rising-here, widths-here, asks_grow, grown-here, asks_settle, asks_store, going_more}
use Rattle.short.proofs.fill_widths.Goals as goal

pub pair_count-pairs-requires : goal.pair_count-pairs-requires
pair_count-pairs-requires k = (limits k.args.columns k.args.rows k.args.xs.now k.args.ys.now k.requires.by_index.0 k.args.rule k.args.price k.args.short.now k.args.table.now k.requires.by_index.1).1.1.1

pub overflow_add-w-end : goal.overflow_add-w-end
overflow_add-w-end k = record { fits = omega (arith, limits k.args.columns k.args.rows k.args.xs.now k.args.ys.now k.requires.by_index.0 k.args.rule k.args.price k.args.short.now k.args.table.now k.requires.by_index.1) }

pub loop-w-init : goal.loop-w-init
loop-w-init k = (refl, (λ cells f. going_none k.args.columns k.args.rows k.args.xs.now k.args.ys.now cells k.args.rule k.args.price k.args.short.now k.args.table.now f k.args.store.now k.requires.rows_in_bounds, refl))

pub widths-requires : goal.widths-requires
widths-requires k =
    let m : k.loop-w.w ≤ k.args.columns = omega arith in
    (k.loop-w.invariant.0, rising-here k.args.columns k.args.rows k.args.xs.now k.args.ys.now k.requires.by_index.0 k.args.rule k.args.price k.args.short.now k.args.table.now k.requires.by_index.1 _ (omega (arith, m)))

pub grow-requires : goal.grow-requires
grow-requires k =
    let m : k.loop-w.w ≤ k.args.columns = omega arith in
    let wide = widths-here k.args.columns k.args.rows k.args.xs.now k.args.ys.now k.requires.by_index.0 k.args.rule k.args.price k.args.short.now k.args.table.now k.requires.by_index.1 k.loop-w.w _ k.widths.ensures in
    record { sums_len = (asks_grow k.args.columns k.args.rows k.args.xs.now k.args.ys.now k.requires.by_index.0 k.args.rule k.args.price k.args.short.now k.args.table.now k.requires.by_index.1 k.loop-w.w (omega arith) m k.loop-w.sums k.loop-w.store k.loop-w.table (k.loop-w.invariant.1.0 k.requires.by_index.0 k.requires.by_index.1) _ wide).0; rows_bound = (asks_grow k.args.columns k.args.rows k.args.xs.now k.args.ys.now k.requires.by_index.0 k.args.rule k.args.price k.args.short.now k.args.table.now k.requires.by_index.1 k.loop-w.w (omega arith) m k.loop-w.sums k.loop-w.store k.loop-w.table (k.loop-w.invariant.1.0 k.requires.by_index.0 k.requires.by_index.1) _ wide).1 }

pub settle-requires : goal.settle-requires
settle-requires k =
    let m : k.loop-w.w ≤ k.args.columns = omega arith in
    let wide = widths-here k.args.columns k.args.rows k.args.xs.now k.args.ys.now k.requires.by_index.0 k.args.rule k.args.price k.args.short.now k.args.table.now k.requires.by_index.1 k.loop-w.w _ k.widths.ensures in
    let grown = grown-here k.args.columns k.args.rows k.args.xs.now k.args.ys.now k.requires.by_index.0 k.args.rule k.args.price k.args.short.now k.args.table.now k.requires.by_index.1 k.loop-w.w (omega arith) m k.loop-w.sums k.loop-w.store k.loop-w.table (k.loop-w.invariant.1.0 k.requires.by_index.0 k.requires.by_index.1) _ wide _ k.grow.ensures in
    record { measured = (asks_settle k.args.columns k.args.rows k.args.xs.now k.args.ys.now k.requires.by_index.0 k.args.rule k.args.price k.args.short.now k.args.table.now k.requires.by_index.1 k.loop-w.w (omega arith) m k.loop-w.sums k.loop-w.store k.loop-w.table (k.loop-w.invariant.1.0 k.requires.by_index.0 k.requires.by_index.1) _ wide _ k.pair_count-pairs.ensures.0 _ grown _ refl).0; w_in_bounds = (asks_settle k.args.columns k.args.rows k.args.xs.now k.args.ys.now k.requires.by_index.0 k.args.rule k.args.price k.args.short.now k.args.table.now k.requires.by_index.1 k.loop-w.w (omega arith) m k.loop-w.sums k.loop-w.store k.loop-w.table (k.loop-w.invariant.1.0 k.requires.by_index.0 k.requires.by_index.1) _ wide _ k.pair_count-pairs.ensures.0 _ grown _ refl).1 }

pub store_strips-requires : goal.store_strips-requires
store_strips-requires k =
    let m : k.loop-w.w ≤ k.args.columns = omega arith in
    let wide = widths-here k.args.columns k.args.rows k.args.xs.now k.args.ys.now k.requires.by_index.0 k.args.rule k.args.price k.args.short.now k.args.table.now k.requires.by_index.1 k.loop-w.w _ k.widths.ensures in
    let grown = grown-here k.args.columns k.args.rows k.args.xs.now k.args.ys.now k.requires.by_index.0 k.args.rule k.args.price k.args.short.now k.args.table.now k.requires.by_index.1 k.loop-w.w (omega arith) m k.loop-w.sums k.loop-w.store k.loop-w.table (k.loop-w.invariant.1.0 k.requires.by_index.0 k.requires.by_index.1) _ wide _ k.grow.ensures in
    record { columns_bound = (asks_store k.args.columns k.args.rows k.args.xs.now k.args.ys.now k.requires.by_index.0 k.args.rule k.args.price k.args.short.now k.args.table.now k.requires.by_index.1 k.loop-w.w (omega arith) m k.loop-w.sums k.loop-w.store k.loop-w.table (k.loop-w.invariant.1.0 k.requires.by_index.0 k.requires.by_index.1) _ wide _ k.pair_count-pairs.ensures.0 _ grown _ refl k.settle.new.store k.settle.auto.store).0; le_w = (asks_store k.args.columns k.args.rows k.args.xs.now k.args.ys.now k.requires.by_index.0 k.args.rule k.args.price k.args.short.now k.args.table.now k.requires.by_index.1 k.loop-w.w (omega arith) m k.loop-w.sums k.loop-w.store k.loop-w.table (k.loop-w.invariant.1.0 k.requires.by_index.0 k.requires.by_index.1) _ wide _ k.pair_count-pairs.ensures.0 _ grown _ refl k.settle.new.store k.settle.auto.store).1 }

pub loop-w-preserved : goal.loop-w-preserved
loop-w-preserved k =
    let m : k.loop-w.w ≤ k.args.columns = omega arith in (
      (widths-here k.args.columns k.args.rows k.args.xs.now k.args.ys.now k.requires.by_index.0 k.args.rule k.args.price k.args.short.now k.args.table.now k.requires.by_index.1 k.loop-w.w _ k.widths.ensures).long,
      (
        λ cells f.
            let wide = widths-here k.args.columns k.args.rows k.args.xs.now k.args.ys.now cells k.args.rule k.args.price k.args.short.now k.args.table.now f k.loop-w.w _ k.widths.ensures in
            let grown = grown-here k.args.columns k.args.rows k.args.xs.now k.args.ys.now cells k.args.rule k.args.price k.args.short.now k.args.table.now f k.loop-w.w (omega arith) m k.loop-w.sums k.loop-w.store k.loop-w.table (k.loop-w.invariant.1.0 cells f) _ wide _ k.grow.ensures in
            going_more k.args.columns k.args.rows k.args.xs.now k.args.ys.now cells k.args.rule k.args.price k.args.short.now k.args.table.now f k.loop-w.w (omega arith) m k.loop-w.sums k.loop-w.store k.loop-w.table (k.loop-w.invariant.1.0 cells f) _ wide _ k.pair_count-pairs.ensures.0 _ grown _ refl _ k.settle.auto.store k.settle.ensures.by_index k.settle.ensures.by_index_2 _ k.store_strips.ensures,
        k.settle.auto.store ∙ k.loop-w.invariant.1.1,
      ),
    )

pub returns : goal.returns
returns k = λ cells f. going_all k.args.columns k.args.rows k.args.xs.now k.args.ys.now cells k.args.rule k.args.price k.args.short.now k.args.table.now f k.loop-w.w k.loop-w.sums k.loop-w.store k.loop-w.table (omega arith) (k.loop-w.invariant.1.0 cells f)
