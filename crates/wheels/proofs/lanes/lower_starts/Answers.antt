-- `wheels::lanes::lower_starts` meets its contract: the pieces that begin below b are lowered. Assumes nothing.
use Rattle.std.proofs.Common.{◌-◌, sym, refl, ◌∙◌, arith}
use Rattle.table.proofs.Entry.{count_most}
use Rattle.widths.proofs.Lane.{pairs_small}
use Rattle.wheels.proofs.Weighed.{among_none, among-end}
use Rattle.wheels.proofs.Steps.{spot-room, pair_in, start-more}
use Rattle.wheels.proofs.lanes.lower_starts.Goals as goal

pub loop-b-init : goal.loop-b-init
loop-b-init c = (omega arith, (refl, among_none _ _ _ _ _ (omega arith)))

pub pair_number-near-requires : goal.pair_number-near-requires
pair_number-near-requires c = (c.requires.ground.0.rows-most, (omega (arith, c.loop-b-test.true, c.requires.ground.1.0.low_near), omega (arith, c.requires.ground.1.0.near-high, c.requires.ground.1.0.high-most)))

pub pair_number-far-requires : goal.pair_number-far-requires
pair_number-far-requires c = (c.requires.ground.0.rows-most, (omega (arith, c.loop-b-test.true, c.requires.ground.1.0.low-far), omega (arith, c.requires.ground.1.0.far-high, c.requires.ground.1.0.high-most)))

pub pair_number-piece-requires : goal.pair_number-piece-requires
pair_number-piece-requires c = (c.requires.ground.0.rows-most, (omega (arith, c.loop-b-test.true, c.requires.ground.1.0.low-high, c.requires.ground.1.1), c.requires.ground.1.1.1))

pub spot-left-requires : goal.spot-left-requires
spot-left-requires c = (c.requires.ground.1.0.line-some, (omega (arith, c.requires.ground.1.0.line-most, c.requires.ground.0.width-most), (omega (arith, c.requires.ground.0.pairs-all, count_most c.args.s.rows c.requires.ground.0.rows-most), (c.pair_number-near.ensures.1, omega arith))))

pub overflow_sub-s : goal.overflow_sub-s
overflow_sub-s c = omega (arith, c.requires.ground.1.0.line-most)

pub spot-right-requires : goal.spot-right-requires
spot-right-requires c = (omega (arith, c.requires.ground.1.0.line-most), (omega (arith, c.requires.ground.0.width-most), (omega (arith, c.requires.ground.0.pairs-all, count_most c.args.s.rows c.requires.ground.0.rows-most), (c.pair_number-far.ensures.1, omega (arith, c.requires.ground.1.0.line-most, c.requires.ground.0.width-most)))))

pub slice_bounds-add-end : goal.slice_bounds-add-end
slice_bounds-add-end c = sym c.loop-b.invariant.1.0

pub add-requires : goal.add-requires
add-requires c = (
  omega (arith, c.loop-b.invariant.1.0, c.requires.side_len),
  (
    omega (arith, c.requires.side_len, c.spot-left.ensures, spot-room c.args.s c.args.store.now c.args.arms.line _ 0 c.requires.ground.0 c.requires.ground.1.0.line-some (omega (arith, c.requires.ground.1.0.line-most)) (pair_in c.args.s c.args.store.now c.loop-b.b c.args.arms.near _ c.requires.ground.0 (omega (arith, c.loop-b-test.true, c.requires.ground.1.0.low_near)) (omega (arith, c.requires.ground.1.0.near-high, c.requires.ground.1.0.high-most)) c.pair_number-near.ensures.0) (omega arith)),
    (
      omega (arith, c.requires.side_len, c.spot-right.ensures, spot-room c.args.s c.args.store.now (c.args.s.width - c.args.arms.line) _ c.args.arms.line c.requires.ground.0 (omega (arith, c.requires.ground.1.0.line-most)) (omega arith) (pair_in c.args.s c.args.store.now c.loop-b.b c.args.arms.far _ c.requires.ground.0 (omega (arith, c.loop-b-test.true, c.requires.ground.1.0.low-far)) (omega (arith, c.requires.ground.1.0.far-high, c.requires.ground.1.0.high-most)) c.pair_number-far.ensures.0) (omega (arith, c.requires.ground.1.0.line-most, c.requires.ground.0.width-most))),
      omega (arith, c.requires.side_len),
    ),
  ),
)

pub overflow_mul-piece : goal.overflow_mul-piece
overflow_mul-piece c = record { fits = omega (arith, c.pair_number-piece.ensures.1) }

pub slice_bounds-lower-end : goal.slice_bounds-lower-end
slice_bounds-lower-end c = sym (c.add.ensures.long ∙ c.loop-b.invariant.1.0)

pub lower-requires : goal.lower-requires
lower-requires c =
    let p = pair_in c.args.s c.args.store.now c.loop-b.b c.args.d _ c.requires.ground.0 (omega (arith, c.loop-b-test.true, c.requires.ground.1.0.low-high, c.requires.ground.1.1)) c.requires.ground.1.1.1 c.pair_number-piece.ensures.0 in
    (omega (arith, p, c.requires.ground.0.pairs-all, pairs_small c.args.s.rows c.requires.ground.0.rows-most, c.loop-b.invariant.1.1.long, c.requires.side_len), omega (arith, c.add.ensures.long, c.loop-b.invariant.1.0, c.requires.side_len))

pub loop-b-preserved : goal.loop-b-preserved
loop-b-preserved c = (
  omega (arith, c.loop-b-test.true),
  (
    c.add.ensures.long ∙ c.loop-b.invariant.1.0,
    start-more c.args.store.now c.args.best.now c.args.s c.args.arms c.args.d c.args.lanes c.loop-b.b _ _ _ _ c.pair_number-near.ensures.0 c.pair_number-far.ensures.0 c.spot-left.ensures c.spot-right.ensures c.loop-b-test.true c.requires.starts_fit _ _ c.loop-b.sums _ _ c.loop-b.side _ c.pair_number-piece.ensures.0 refl c.requires.side_len.1.1.0 c.requires.side_len.1.1.1 c.add.ensures c.lower.ensures c.loop-b.invariant.1.1,
  ),
)

pub returns : goal.returns
returns c = among-end _ _ _ _ _ _ _ c.loop-b.invariant.0 c.loop-b-test.false c.loop-b.invariant.1.1
