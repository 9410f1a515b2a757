-- `wheels::turning::weigh_line` meets its contract: the pinwheels whose inner parts begin below the line k are weighed. Assumes nothing.
use Rattle.std.proofs.Common.{◌∙◌, arith}
use Rattle.wheels.specs.Wheel.{FromTo}
use Rattle.wheels.proofs.Weighed.{among_none, among-more}
use Rattle.wheels.proofs.Turns.{line-end}
use Rattle.wheels.proofs.turning.weigh_line.Goals as goal

pub loop-k-init : goal.loop-k-init
loop-k-init c = (omega arith, (c.requires.ground.0.rows-some, among_none _ _ _ _ _ (omega arith)))

pub weigh_pairs-requires : goal.weigh_pairs-requires
weigh_pairs-requires c = record { ground = (c.requires.ground.0, (c.loop-k.invariant.1.1.long ∙ c.requires.ground.1.0, (c.requires.ground.1.1.0, (c.requires.ground.1.1.1, (c.loop-k.invariant.0, c.loop-k-test.true))))); all_fit = c.requires.all_fit }

pub loop-k-preserved : goal.loop-k-preserved
loop-k-preserved c = (omega arith, (omega (arith, c.loop-k-test.true), among-more c.args.s.count 1 c.loop-k.k (FromTo c.args.store.now c.args.s c.args.line) c.args.side.now c.loop-k.side _ c.loop-k.invariant.0 c.loop-k.invariant.1.1 c.weigh_pairs.ensures))

pub returns : goal.returns
returns c = line-end c.args.store.now c.args.side.now c.loop-k.side c.args.s c.args.line c.loop-k.k c.loop-k.invariant.1.0 c.loop-k-test.false c.loop-k.invariant.1.1
