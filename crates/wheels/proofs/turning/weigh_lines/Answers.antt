-- `wheels::turning::weigh_lines` meets its contract: the pinwheels whose lower arms meet below a line are weighed. Assumes nothing.
use Rattle.std.proofs.Common.{◌∙◌, arith}
use Rattle.wheels.specs.Wheel.{OfLine}
use Rattle.wheels.proofs.Weighed.{among_none, among-more, among-end}
use Rattle.wheels.proofs.turning.weigh_lines.Goals as goal

pub loop-line-init : goal.loop-line-init
loop-line-init c = (omega arith, (c.requires.ground.1.1.1.0, among_none _ _ _ _ _ (omega arith)))

pub weigh_line-requires : goal.weigh_line-requires
weigh_line-requires c = record { ground = (c.requires.ground.0, (c.loop-line.invariant.1.1.long ∙ c.requires.ground.1.0, (omega (arith, c.requires.ground.1.1.0, c.loop-line.invariant.0), omega (arith, c.loop-line-test.true, c.requires.ground.1.1.1.1)))); all_fit = c.requires.all_fit }

pub loop-line-preserved : goal.loop-line-preserved
loop-line-preserved c = (
  omega (arith, c.loop-line.invariant.0),
  (
    omega (arith, c.loop-line-test.true),
    among-more c.args.s.count c.args.first c.loop-line.line (OfLine c.args.store.now c.args.s) c.args.side.now c.loop-line.side _ c.loop-line.invariant.0 c.loop-line.invariant.1.1 c.weigh_line.ensures,
  ),
)

pub returns : goal.returns
returns c = among-end c.args.s.count c.args.first c.loop-line.line c.args.end (OfLine c.args.store.now c.args.s) c.args.side.now c.loop-line.side c.loop-line.invariant.1.0 c.loop-line-test.false c.loop-line.invariant.1.1
