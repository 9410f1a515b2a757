-- `wheels::turning::weigh_wheels` meets its contract: the lines of both halves are all lines. Assumes nothing.
use Rattle.std.proofs.Common.{◌∙◌, arith}
use Rattle.wheels.proofs.Turns.{wheels_halves}
use Rattle.wheels.proofs.turning.weigh_wheels.Goals as goal

pub overflow_add-middle : goal.overflow_add-middle
overflow_add-middle c = record { fits = omega (arith, c.requires.ground.0.width-most) }

pub weigh_lines-requires : goal.weigh_lines-requires
weigh_lines-requires c = record { ground = (c.requires.ground.0, (c.requires.ground.1, (omega arith, (omega arith, omega (arith, c.requires.ground.0.width_some))))); all_fit = c.requires.all_fit }

pub weigh_lines-requires-2 : goal.weigh_lines-requires-2
weigh_lines-requires-2 c = record { ground = (c.requires.ground.0, (c.weigh_lines.ensures.long ∙ c.requires.ground.1, (omega arith, (omega (arith, c.requires.ground.0.width_some), omega arith)))); all_fit = c.requires.all_fit }

pub returns : goal.returns
returns c = wheels_halves c.args.store.now c.args.side.now _ _ c.args.s _ (omega arith) (omega (arith, c.requires.ground.0.width_some)) c.weigh_lines.ensures c.weigh_lines-2.ensures
