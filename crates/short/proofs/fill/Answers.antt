-- `short::fill` meets its contract: where short numbers are enough the table is filled, else it is as it was. Assumes nothing.
use native.Mathlib.Omega.{arith}
use Rattle.table.proofs.Fill.{fill_limits}
use Rattle.short.proofs.Filling.{small-room, large_room, room_fits}
use Rattle.short.proofs.fill.Goals as goal

pub pair_count-requires : goal.pair_count-requires
pair_count-requires c = (fill_limits c.args.columns c.args.rows c.args.xs.now c.args.ys.now c.args.cells.now c.args.rule c.args.table.now c.requires.ready).1.1.1

pub overflow_mul-room : goal.overflow_mul-room
overflow_mul-room c = record { fits = omega (arith, room_fits c.args.columns c.pair_count.result (fill_limits c.args.columns c.args.rows c.args.xs.now c.args.ys.now c.args.cells.now c.args.rule c.args.table.now c.requires.ready).1.0 c.pair_count.ensures.1) }

pub overflow_mul-room-2 : goal.overflow_mul-room-2
overflow_mul-room-2 c = record { fits = omega (arith, room_fits c.args.columns c.pair_count.result (fill_limits c.args.columns c.args.rows c.args.xs.now c.args.ys.now c.args.cells.now c.args.rule c.args.table.now c.requires.ready).1.0 c.pair_count.ensures.1) }

pub overflow_add-room : goal.overflow_add-room
overflow_add-room c = record { fits = omega (arith, room_fits c.args.columns c.pair_count.result (fill_limits c.args.columns c.args.rows c.args.xs.now c.args.ys.now c.args.cells.now c.args.rule c.args.table.now c.requires.ready).1.0 c.pair_count.ensures.1) }

pub fill_in-requires-clause-rows_bound : goal.fill_in-requires-clause-rows_bound
fill_in-requires-clause-rows_bound c = (small-room c.args.columns c.args.rows (c.requires.columns_bound c.if-small.true).0 (c.requires.columns_bound c.if-small.true).1, omega arith)

pub fill_in-requires-else-room-le-MIDDLE_STORE-clause-rows_bound : goal.fill_in-requires-else-room-le-MIDDLE_STORE-clause-rows_bound
fill_in-requires-else-room-le-MIDDLE_STORE-clause-rows_bound c = (large_room c.args.columns c.args.rows (fill_limits c.args.columns c.args.rows c.args.xs.now c.args.ys.now c.args.cells.now c.args.rule c.args.table.now c.requires.ready).1.0 (fill_limits c.args.columns c.args.rows c.args.xs.now c.args.ys.now c.args.cells.now c.args.rule c.args.table.now c.requires.ready).1.1.1, omega arith)
