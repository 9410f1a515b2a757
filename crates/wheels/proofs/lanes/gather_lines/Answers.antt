-- `wheels::lanes::gather_lines` meets its contract: the other lines below x are weighed. Assumes nothing.
use Rattle.std.proofs.Common.{◌-◌, refl, ◌∙◌, arith}
use Rattle.table.proofs.Entry.{count_most}
use Rattle.wheels.proofs.Steps.{spot-room, inner_room, beside_of, pair_in, lines_none, lines_more, lines_end}
use Rattle.wheels.proofs.lanes.gather_lines.Goals as goal

pub pair_number-near-requires : goal.pair_number-near-requires
pair_number-near-requires c = (c.requires.ground.0.rows-most, (omega (arith, c.requires.ground.1.0.near-high, c.requires.ground.1.1), c.requires.ground.1.1.1))

pub pair_number-far-requires : goal.pair_number-far-requires
pair_number-far-requires c = (c.requires.ground.0.rows-most, (omega (arith, c.requires.ground.1.0.far-high, c.requires.ground.1.1), c.requires.ground.1.1.1))

pub pair_number-middle-requires : goal.pair_number-middle-requires
pair_number-middle-requires c = (c.requires.ground.0.rows-most, (c.requires.ground.1.0.low-high, omega (arith, c.requires.ground.1.0.high-most)))

pub loop-x-init : goal.loop-x-init
loop-x-init c = (omega arith, (omega (arith, c.requires.ground.1.0.some-between), (refl, lines_none _ _ _ _ _ _)))

pub spot-left-requires : goal.spot-left-requires
spot-left-requires c = (omega (arith, c.loop-x.invariant.0), (omega (arith, c.loop-x-test.true, c.requires.ground.1.0.before-most, c.requires.ground.0.width-most), (omega (arith, c.requires.ground.0.pairs-all, count_most c.args.s.rows c.requires.ground.0.rows-most), (c.pair_number-near.ensures.1, omega arith))))

pub overflow_sub-s : goal.overflow_sub-s
overflow_sub-s c = omega (arith, c.loop-x-test.true, c.requires.ground.1.0.before-most)

pub spot-right-requires : goal.spot-right-requires
spot-right-requires c = (omega (arith, c.loop-x-test.true, c.requires.ground.1.0.before-most), (omega (arith, c.requires.ground.0.width-most), (omega (arith, c.requires.ground.0.pairs-all, count_most c.args.s.rows c.requires.ground.0.rows-most), (c.pair_number-far.ensures.1, omega (arith, c.loop-x-test.true, c.requires.ground.1.0.before-most, c.requires.ground.0.width-most)))))

pub inner_spot-inner-requires : goal.inner_spot-inner-requires
inner_spot-inner-requires c = (beside_of c.args.s c.args.arms c.loop-x.x c.requires.ground.1.0 c.loop-x.invariant.0 c.loop-x-test.true, (omega (arith, c.requires.ground.1.0.line-most, c.requires.ground.0.width-most), (omega (arith, c.loop-x-test.true, c.requires.ground.1.0.before-most, c.requires.ground.0.width-most), (omega (arith, c.requires.ground.0.pairs-all, count_most c.args.s.rows c.requires.ground.0.rows-most), c.pair_number-middle.ensures.1))))

pub gather-requires : goal.gather-requires
gather-requires c = (
  omega (arith, c.loop-x.invariant.1.1.0, c.requires.best_len),
  (
    omega (arith, c.requires.best_len, c.spot-left.ensures, spot-room c.args.s c.args.store.now c.loop-x.x _ 0 c.requires.ground.0 (omega (arith, c.loop-x.invariant.0)) (omega (arith, c.loop-x-test.true, c.requires.ground.1.0.before-most)) (pair_in c.args.s c.args.store.now c.args.arms.near c.args.d _ c.requires.ground.0 (omega (arith, c.requires.ground.1.0.near-high, c.requires.ground.1.1)) c.requires.ground.1.1.1 c.pair_number-near.ensures.0) (omega arith)),
    (
      omega (arith, c.requires.best_len, c.spot-right.ensures, spot-room c.args.s c.args.store.now (c.args.s.width - c.loop-x.x) _ c.loop-x.x c.requires.ground.0 (omega (arith, c.loop-x-test.true, c.requires.ground.1.0.before-most)) (omega arith) (pair_in c.args.s c.args.store.now c.args.arms.far c.args.d _ c.requires.ground.0 (omega (arith, c.requires.ground.1.0.far-high, c.requires.ground.1.1)) c.requires.ground.1.1.1 c.pair_number-far.ensures.0) (omega (arith, c.loop-x-test.true, c.requires.ground.1.0.before-most, c.requires.ground.0.width-most))),
      omega (arith, c.requires.best_len, c.inner_spot-inner.ensures, inner_room c.args.s c.args.store.now c.args.arms.line c.loop-x.x _ c.requires.ground.0 (beside_of c.args.s c.args.arms c.loop-x.x c.requires.ground.1.0 c.loop-x.invariant.0 c.loop-x-test.true) c.requires.ground.1.0.line-most (omega (arith, c.loop-x-test.true, c.requires.ground.1.0.before-most)) (pair_in c.args.s c.args.store.now c.args.arms.low c.args.arms.high _ c.requires.ground.0 c.requires.ground.1.0.low-high (omega (arith, c.requires.ground.1.0.high-most)) c.pair_number-middle.ensures.0)),
    ),
  ),
)

pub loop-x-preserved : goal.loop-x-preserved
loop-x-preserved c = (
  omega (arith, c.loop-x.invariant.0),
  (
    omega (arith, c.loop-x-test.true),
    (
      c.gather.ensures.long ∙ c.loop-x.invariant.1.1.0,
      lines_more c.args.store.now c.args.s c.args.arms c.args.d c.args.lanes c.loop-x.x _ _ _ _ _ _ c.requires.ground.1.0 c.pair_number-near.ensures.0 c.pair_number-far.ensures.0 c.pair_number-middle.ensures.0 c.spot-left.ensures c.spot-right.ensures c.inner_spot-inner.ensures c.loop-x.invariant.0 c.loop-x-test.true c.requires.fits_at c.args.best.now c.loop-x.best _ c.gather.ensures c.loop-x.invariant.1.1.1,
    ),
  ),
)

pub returns : goal.returns
returns c = lines_end c.args.store.now c.args.best.now c.loop-x.best c.args.s c.args.arms c.args.d c.args.lanes c.loop-x.x c.loop-x.invariant.1.0 c.loop-x-test.false c.loop-x.invariant.1.1.1
