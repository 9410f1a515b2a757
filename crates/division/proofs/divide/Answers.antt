-- `division::divide` meets its contract: the shots are written aside, and delivered divided. Assumes nothing.
use Rattle.std.specs.Prelude.{Err}
use mathlib.Core.Path.{◌≡◌}
use native.Mathlib.Omega.{arith}
use Rattle.fracture.specs.Told.{denied}
use Rattle.demands.specs.Promise.{Asked, asked}
use Rattle.division.specs.Promise.{room_aside}
use Rattle.division.proofs.Outcome.{Passed}
use Rattle.division.proofs.Settled.{divisible, told-before, told-after}
use Rattle.division.proofs.divide.Goals as goal

pub deliver-requires : goal.deliver-requires
unfolding room_aside
deliver-requires c =
    let question : Asked = asked c.args.mode c.args.corners.now c.args.lengths.now c.args.threshold c.args.weight c.args.table.now c.args.list.now in
    let passed : Passed question c.args.largest = record { range = c.requires.0; fits = c.requires.1 } in
    divisible question c.args.largest passed c.undivided.ensures.words c.undivided.new.table _ c.in-Ok.before c.in-Ok.ensures.settled

pub returns-in-Ok : goal.returns-in-Ok
unfolding room_aside
returns-in-Ok c =
    let question : Asked = asked c.args.mode c.args.corners.now c.args.lengths.now c.args.threshold c.args.weight c.args.table.now c.args.list.now in
    let passed : Passed question c.args.largest = record { range = c.requires.0; fits = c.requires.1 } in
    told-after question c.args.largest passed c.undivided.ensures.words c.undivided.new.table _ c.in-Ok.before c.in-Ok.ensures.settled _ _ (c.deliver.ensures _)

pub returns-in-Err : goal.returns-in-Err
unfolding room_aside
returns-in-Err c =
    let question : Asked = asked c.args.mode c.args.corners.now c.args.lengths.now c.args.threshold c.args.weight c.args.table.now c.args.list.now in
    let passed : Passed question c.args.largest = record { range = c.requires.0; fits = c.requires.1 } in
    let handed : Err c.into.result ≡ denied c.in-Err.denial.why 0 = grind arith in
    rw handed (told-before question c.args.largest passed c.undivided.new.table _ c.in-Err.denial c.in-Err.ensures.settled)
