-- `lowering::weighing::weigh_rows` meets its contract. Assumes nothing.
use mathlib.Core.Path.{◌≡◌, ◌∙◌}
use native.Mathlib.Omega.{arith}
use Rattle.lowering.proofs.Wheels.{placed_as, rows-three, rows_four, rows-five}
use Rattle.lowering.proofs.weighing.weigh_rows.Goals as goal

pub take_three-requires : goal.take_three-requires
take_three-requires c = (placed_as c.if-rows-eq3.true c.requires.0, (omega arith, c.requires.1.1))

pub take_three-requires-then-rows-eq4 : goal.take_three-requires-then-rows-eq4
take_three-requires-then-rows-eq4 c = (placed_as c.if-rows-eq4.true c.requires.0, (omega arith, c.requires.1.1))

pub take_four-requires : goal.take_four-requires
take_four-requires c = (placed_as c.if-rows-eq4.true c.requires.0, (omega arith, c.take_three-then-rows-eq4.ensures.long ∙ c.requires.1.1))

pub take_three-requires-else-rows-eq4 : goal.take_three-requires-else-rows-eq4
take_three-requires-else-rows-eq4 c =
    let five : c.args.rows ≡ 5 = omega (arith, c.requires.0.rows-most, c.requires.1.0, c.if-rows-eq3.false, c.if-rows-eq4.false) in
    (placed_as (five) c.requires.0, (omega arith, c.requires.1.1))

pub take_four-requires-else-rows-eq4 : goal.take_four-requires-else-rows-eq4
take_four-requires-else-rows-eq4 c =
    let five : c.args.rows ≡ 5 = omega (arith, c.requires.0.rows-most, c.requires.1.0, c.if-rows-eq3.false, c.if-rows-eq4.false) in
    (placed_as (five) c.requires.0, (omega arith, c.take_three-else-rows-eq4.ensures.long ∙ c.requires.1.1))

pub take_five-requires : goal.take_five-requires
take_five-requires c =
    let five : c.args.rows ≡ 5 = omega (arith, c.requires.0.rows-most, c.requires.1.0, c.if-rows-eq3.false, c.if-rows-eq4.false) in
    (placed_as (five) c.requires.0, (omega arith, c.take_four-else-rows-eq4.ensures.long ∙ c.take_three-else-rows-eq4.ensures.long ∙ c.requires.1.1))

pub returns-then-rows-eq3 : goal.returns-then-rows-eq3
returns-then-rows-eq3 c = rows-three _ _ c.if-rows-eq3.true c.take_three.ensures

pub returns-then-rows-eq4 : goal.returns-then-rows-eq4
returns-then-rows-eq4 c = rows_four _ _ c.if-rows-eq4.true c.take_three-then-rows-eq4.ensures c.take_four.ensures

pub returns-else-rows-eq4 : goal.returns-else-rows-eq4
returns-else-rows-eq4 c =
    let five : c.args.rows ≡ 5 = omega (arith, c.requires.0.rows-most, c.requires.1.0, c.if-rows-eq3.false, c.if-rows-eq4.false) in
    rows-five _ _ (five) c.take_three-else-rows-eq4.ensures c.take_four-else-rows-eq4.ensures c.take_five.ensures
