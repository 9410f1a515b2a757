-- `wheels::fill` meets its contract: either store has room for the strips of all widths. Assumes nothing.
use Rattle.std.proofs.Common.{arith}
use Rattle.table.proofs.Fill.{fill_limits}
use Rattle.wheels.proofs.Filling.{small-room, large_room}
use Rattle.wheels.proofs.fill.Goals as goal

pub fill_in-requires-clause-room : goal.fill_in-requires-clause-room
fill_in-requires-clause-room c = (omega arith, λ q. small-room c.args.columns c.args.rows c.if-columns-le-SMALL.true c.if-rows-le-SMALL.true)

pub fill_in-requires-2-clause-room : goal.fill_in-requires-2-clause-room
fill_in-requires-2-clause-room c =
    let k = fill_limits c.args.columns c.args.rows c.args.xs.now c.args.ys.now c.args.cells.now c.args.rule c.args.table.now c.requires in
    (omega arith, λ q. large_room c.args.columns c.args.rows k.1.0 k.1.1.1)
