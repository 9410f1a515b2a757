-- `eights::storing::store_strips` meets its contract: the strips that begin below the line a are stored. Assumes nothing.
use native.Mathlib.Omega.{arith}
use Rattle.table.proofs.Entry.{below-zero, below_next}
use Rattle.eights.proofs.Rows.{row_here, row_fits, block_room, rows_none, rows_more}
use Rattle.eights.proofs.storing.store_strips.Goals as goal

pub loop-a-init : goal.loop-a-init
loop-a-init c = (omega (arith, below-zero c.args.columns), rows_none _ _ _ _ _ _)

pub overflow_mul-row : goal.overflow_mul-row
overflow_mul-row c =
    let r = row_here _ _ _ c.loop-a.a c.loop-a.row _ c.requires.columns_bound c.requires.le_w.0 (omega arith) c.loop-a.invariant.0 in
    record { fits = row_fits _ _ r.1.1 c.requires.columns_bound.1.0 }

pub store_strip-requires : goal.store_strip-requires
store_strip-requires c =
    let r = row_here _ _ _ c.loop-a.a c.loop-a.row _ c.requires.columns_bound c.requires.le_w.0 (omega arith) c.loop-a.invariant.0 in (
      omega (arith, r.1.0, c.loop-a.invariant.1.long),
      (block_room c.args.pairs c.args.w c.loop-a.a _ c.requires.le_w.0 (omega (arith, c.requires.columns_bound.0)) c.requires.le_w.1.1.1, (c.requires.columns_bound.1.0, c.requires.le_w.1.1.0)),
    )

pub overflow_add-row : goal.overflow_add-row
overflow_add-row c =
    let r = row_here _ _ _ c.loop-a.a c.loop-a.row _ c.requires.columns_bound c.requires.le_w.0 (omega arith) c.loop-a.invariant.0 in
    record { fits = omega (arith, r.1.1, c.requires.columns_bound.0) }

pub loop-a-preserved : goal.loop-a-preserved
loop-a-preserved c =
    let r = row_here _ _ _ c.loop-a.a c.loop-a.row _ c.requires.columns_bound c.requires.le_w.0 (omega arith) c.loop-a.invariant.0 in (
      omega (arith, below_next c.args.columns c.loop-a.a, c.loop-a.invariant.0, c.requires.le_w.0),
      rows_more _ _ _ _ _ _ c.loop-a.a c.loop-a.row c.loop-a.table _ c.requires.le_w.0 (omega arith) r.0 c.store_strip.ensures c.loop-a.invariant.1,
    )
