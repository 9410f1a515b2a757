-- `widths::settling::settle` meets its contract: the pieces that begin at the line b or above are settled. Assumes nothing.
use Prim.Native.Nat.{◌<◌}
use mathlib.Core.Path.{refl, ◌∙◌}
use native.Mathlib.Omega.{arith}
use Rattle.table.proofs.Pairs.{first-all, first_back, first-enough}
use Rattle.widths.specs.Price.{sheet}
use Rattle.widths.proofs.Price.{priced-back, priced-zero}
use Rattle.widths.proofs.settling.settle.Goals as goal

pub loop-b-init : goal.loop-b-init
loop-b-init c = (omega arith, (first-all c.args.rows c.args.pairs c.requires.pairs_value.0, (refl, λ f k. k)))

pub overflow_sub-first-in-loop-b : goal.overflow_sub-first-in-loop-b
overflow_sub-first-in-loop-b c = omega (arith, first-enough c.args.rows c.loop-b.b c.loop-b.first (omega (arith, c.loop-b-test.true)) c.loop-b.invariant.1.0)

pub settle_from-requires : goal.settle_from-requires
settle_from-requires c =
    let t : 0 < c.loop-b.b = omega (arith, c.loop-b-test.true) in
    record { measured = c.requires.measured; low_lt_rows = (omega (arith, t, c.loop-b.invariant.0), (first_back c.args.rows c.loop-b.b c.loop-b.first t c.loop-b.invariant.1.0, c.loop-b.invariant.1.1.0 ∙ c.requires.pairs_value.1)); priceable = record { price = c.requires.priceable.price; priced = priced-back c.requires.priceable.price (sheet c.args.sums.now c.args.widths.now c.args.ys.now c.args.rule c.args.rows c.args.w c.args.n) c.loop-b.side c.loop-b.b t (c.loop-b.invariant.1.1.1 c.requires.priceable.price c.requires.priceable.priced) } }

pub loop-b-preserved : goal.loop-b-preserved
loop-b-preserved c =
    let t : 0 < c.loop-b.b = omega (arith, c.loop-b-test.true) in (
      omega (arith, c.loop-b.invariant.0),
      (
        first_back c.args.rows c.loop-b.b c.loop-b.first t c.loop-b.invariant.1.0,
        (c.settle_from.auto.side ∙ c.loop-b.invariant.1.1.0, λ f k. c.settle_from.ensures f (priced-back f (sheet c.args.sums.now c.args.widths.now c.args.ys.now c.args.rule c.args.rows c.args.w c.args.n) c.loop-b.side c.loop-b.b t (c.loop-b.invariant.1.1.1 f k))),
      ),
    )

pub returns : goal.returns
returns c = λ f k. priced-zero f (sheet c.args.sums.now c.args.widths.now c.args.ys.now c.args.rule c.args.rows c.args.w c.args.n) c.loop-b.side c.loop-b.b (omega (arith, c.loop-b-test.false)) (c.loop-b.invariant.1.1.1 f k)
