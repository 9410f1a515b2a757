-- `wheels::turning::weigh_turn` meets its contract: the pinwheels that end below d are weighed. Assumes nothing.
use Rattle.std.proofs.Common.{◌+◌, ◌≤◌, ◌∙◌, arith}
use Rattle.wheels.specs.Wheel.{EndsAt}
use Rattle.wheels.proofs.Weighed.{among_none, among-more}
use Rattle.wheels.proofs.Turns.{turned_none, turned-end, fits-at}
use Rattle.wheels.proofs.turning.weigh_turn.Goals as goal

pub overflow_add-arms : goal.overflow_add-arms
overflow_add-arms c = record { fits = omega (arith, c.requires.ground.1.0.some-between, c.requires.ground.1.0.before-most, c.requires.ground.0.width-most) }

pub returns-then-arms : goal.returns-then-arms
returns-then-arms c = turned_none c.args.store.now c.args.side.now c.args.s c.args.arms c.if-arms.true

pub loop-d-init : goal.loop-d-init
loop-d-init c = (omega arith, (omega (arith, c.requires.ground.1.0.high-most), among_none _ _ _ _ _ (omega arith)))

pub weigh_some-requires : goal.weigh_some-requires
weigh_some-requires c =
    let inside : c.loop-d.d ≤ c.args.s.rows = omega (arith, c.loop-d-test.true) in
    record { ground = (c.requires.ground.0, (c.requires.ground.1.0, (c.loop-d.invariant.0, inside))); side_len = (c.loop-d.invariant.1.1.long ∙ c.requires.ground.1.1, (omega (arith, c.if-arms.false), fits-at _ _ _ _ c.loop-d.invariant.0 inside c.requires.fitting)) }

pub loop-d-preserved : goal.loop-d-preserved
loop-d-preserved c =
    let inside : c.loop-d.d ≤ c.args.s.rows = omega (arith, c.loop-d-test.true) in
    (omega (arith, c.loop-d.invariant.0), (omega (arith, inside), among-more c.args.s.count (c.args.arms.high + 1) c.loop-d.d (EndsAt c.args.store.now c.args.s c.args.arms) _ c.loop-d.side _ (omega (arith, c.loop-d.invariant.0)) c.loop-d.invariant.1.1 c.weigh_some.ensures))

pub returns : goal.returns
returns c = turned-end c.args.store.now c.args.side.now c.loop-d.side c.args.s c.args.arms c.loop-d.d c.loop-d.invariant.1.0 (omega (arith, c.loop-d-test.false)) c.loop-d.invariant.1.1
