-- `wheels::turning::weigh_pairs` meets its contract: the pinwheels of both turns below the line m are weighed. Assumes nothing.
use Rattle.std.proofs.Common.{◌∙◌, arith}
use Rattle.wheels.proofs.Weighed.{among_none}
use Rattle.wheels.proofs.Turns.{first_turning, second_turning, first_fitting, second_fitting, both-more, pairs_end}
use Rattle.wheels.proofs.turning.weigh_pairs.Goals as goal

pub loop-m-init : goal.loop-m-init
loop-m-init c = (omega arith, (omega (arith, c.requires.ground.1.1.1.1.1), among_none _ _ _ _ _ (omega arith)))

pub weigh_turn-requires : goal.weigh_turn-requires
weigh_turn-requires c = record { ground = (c.requires.ground.0, (first_turning c.args.s c.args.line c.args.k c.loop-m.m c.requires.ground.1.1.0 c.requires.ground.1.1.1.0 c.requires.ground.1.1.1.1.0 c.loop-m.invariant.0 c.loop-m-test.true, c.loop-m.invariant.1.1.long ∙ c.requires.ground.1.0)); fitting = first_fitting _ c.args.s c.args.line c.args.k c.loop-m.m c.requires.ground.1.1.0 c.requires.ground.1.1.1.0 c.requires.ground.1.1.1.1.0 c.loop-m.invariant.0 c.loop-m-test.true c.requires.all_fit }

pub weigh_turn-requires-in-loop-m : goal.weigh_turn-requires-in-loop-m
weigh_turn-requires-in-loop-m c = record { ground = (c.requires.ground.0, (second_turning c.args.s c.args.line c.args.k c.loop-m.m c.requires.ground.1.1.0 c.requires.ground.1.1.1.0 c.requires.ground.1.1.1.1.0 c.loop-m.invariant.0 c.loop-m-test.true, c.weigh_turn.ensures.long ∙ c.loop-m.invariant.1.1.long ∙ c.requires.ground.1.0)); fitting = second_fitting _ c.args.s c.args.line c.args.k c.loop-m.m c.requires.ground.1.1.0 c.requires.ground.1.1.1.0 c.requires.ground.1.1.1.1.0 c.loop-m.invariant.0 c.loop-m-test.true c.requires.all_fit }

pub loop-m-preserved : goal.loop-m-preserved
loop-m-preserved c = (omega (arith, c.loop-m.invariant.0), (omega (arith, c.loop-m-test.true), both-more c.args.store.now c.args.side.now c.loop-m.side _ _ c.args.s c.args.line c.args.k c.loop-m.m c.loop-m.invariant.0 c.loop-m.invariant.1.1 c.weigh_turn.ensures c.weigh_turn-in-loop-m.ensures))

pub returns : goal.returns
returns c = pairs_end c.args.store.now c.args.side.now c.loop-m.side c.args.s c.args.line c.args.k c.loop-m.m c.loop-m.invariant.1.0 c.loop-m-test.false c.loop-m.invariant.1.1
