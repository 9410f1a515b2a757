-- `emission::measuring::measured` meets its contract. The invariant: the sum so far and that of the shots left are the whole. Assumes nothing.
use native.Mathlib.Omega.{arith}
use Rattle.piece.specs.Piece.{sliver}
use Rattle.emission.proofs.Measured.{shot-shown, sum_next, left-none}
use Rattle.emission.proofs.measuring.measured.Goals as goal

pub loop-k-init : goal.loop-k-init
loop-k-init c g l z = omega arith

pub overflow_mul-k : goal.overflow_mul-k
overflow_mul-k c = omega (arith, c.requires.listed.most, c.loop-k-test.true)

pub shot_at-shot-requires : goal.shot_at-shot-requires
shot_at-shot-requires c = record { grid = c.requires.grid; cells = c.args.cells.now; shot = _; stands = c.requires.listed.each _ c.loop-k-test.true }

pub sliver_of-sum-requires : goal.sliver_of-sum-requires
sliver_of-sum-requires c =
    let e = c.shot_at-shot.ensures c.requires.grid _ _ (c.requires.listed.each _ c.loop-k-test.true) in
    record { grid = c.requires.grid; shown = shot-shown c.requires.grid _ _ _ _ _ c.requires.shots _ c.requires.listed _ c.loop-k-test.true e }

-- a shot more
pub loop-k-preserved : goal.loop-k-preserved
loop-k-preserved c g l z =
    let e = c.shot_at-shot.ensures g _ _ (z.each _ c.loop-k-test.true) in
    sum_next g _ _ _ _ _ l _ z _ c.loop-k.sum c.loop-k-test.true e (c.sliver_of-sum.ensures g (shot-shown g _ _ _ _ _ l _ z _ c.loop-k-test.true e)) (c.loop-k.invariant g l z)

pub overflow_add-sum : goal.overflow_add-sum
overflow_add-sum c =
    let w = c.requires in
    let e = c.shot_at-shot.ensures w.grid _ _ (w.listed.each _ c.loop-k-test.true) in
    omega (
      arith,
      sum_next w.grid _ _ _ _ _ w.shots _ w.listed _ c.loop-k.sum c.loop-k-test.true e
          (c.sliver_of-sum.ensures w.grid (shot-shown w.grid _ _ _ _ _ w.shots _ w.listed _ c.loop-k-test.true e))
          (c.loop-k.invariant w.grid w.shots w.listed),
      w.listed.few,
    )

pub returns : goal.returns
returns c g l z = omega (arith, c.loop-k.invariant g l z, left-none (sliver g c.args.rule) l c.loop-k.k (omega (arith, z.count, c.loop-k-test.false)))
