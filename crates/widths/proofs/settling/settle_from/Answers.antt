-- `widths::settling::settle_from` meets its contract: the pieces that begin at the line low and end below the line high are settled. Assumes nothing.
use Prim.Native.Nat.{ℕ, ◌+◌, ◌*◌, ◌-◌}
use mathlib.Core.Path.{◌≡◌, refl, sym, ◌∙◌, ap}
use native.Mathlib.Omega.{arith}
use native.Mathlib.Nat.{zero-mul}
use Rattle.table.proofs.Pairs.{cells-more}
use Rattle.widths.specs.Price.{sheet}
use Rattle.widths.proofs.Price.{running_none, running_more, running_on, running_most, priced-fits, price_step, priced-end}
use Rattle.widths.proofs.settling.settle_from.Goals as goal

zero_left : (b : ℕ) → b + 1 - 1 - b ≡ 0
zero_left b = omega arith

back-left : (d b : ℕ) → d - b ≡ d + 1 - 1 - b
back-left d b = omega arith

pub loop-high-init : goal.loop-high-init
loop-high-init c = (
  omega arith,
  (
    omega (arith, c.requires.low_lt_rows),
    (
      sym (ap (λ n. n * c.args.w) (zero_left c.args.low) ∙ zero-mul c.args.w),
      (refl, (running_none c.args.rule c.args.sums.now c.args.widths.now c.args.n c.args.low c.requires.measured.strips-most, λ f k. k)),
    ),
  ),
)

pub span-height-requires : goal.span-height-requires
span-height-requires c = (omega (arith, c.requires.measured.ys-length, c.requires.measured.rows-most, c.requires.low_lt_rows), (omega (arith, c.requires.measured.ys-length, c.requires.measured.rows-most), c.requires.measured.ys-up c.args.low c.loop-high.high (omega (arith, c.loop-high.invariant.0)) c.loop-high-test.true))

pub settle_some-requires : goal.settle_some-requires
settle_some-requires c = record { low_lt_high = (c.loop-high.invariant.0, (c.loop-high-test.true, (c.requires.measured.rows-most, c.requires.low_lt_rows.1.0))); side_len = (c.loop-high.invariant.1.1.1.0 ∙ c.requires.low_lt_rows.1.1, (c.requires.measured.sums-length, (c.requires.measured.wide-length, (c.loop-high.invariant.1.1.1.1.0.count_long, c.loop-high.invariant.1.1.1.1.0.flank_long)))); n_bound = (omega (arith, c.requires.measured.strips-most), c.requires.measured.weight-most); by_index = λ a j i p q. priced-fits c.requires.priceable.price (sheet c.args.sums.now c.args.widths.now c.args.ys.now c.args.rule c.args.rows c.args.w c.args.n) c.loop-high.side c.args.low c.loop-high.high (c.loop-high.invariant.1.1.1.1.1 c.requires.priceable.price c.requires.priceable.priced) c.loop-high.invariant.0 c.loop-high-test.true a j i p q; by_index_2 = running_most (sheet c.args.sums.now c.args.widths.now c.args.ys.now c.args.rule c.args.rows c.args.w c.args.n) c.args.low c.loop-high.high c.loop-high.count c.loop-high.flanks c.requires.measured c.loop-high.invariant.0 c.loop-high-test.true c.loop-high.invariant.1.1.1.1.0; narrow = c.loop-high.invariant.1.1.1.1.0.narrow }

pub loop-high-preserved : goal.loop-high-preserved
loop-high-preserved c =
    let w = running_more c.args.rule c.args.sums.now c.args.widths.now c.args.n c.args.low c.loop-high.high c.settle_some.ensures.lanes c.loop-high.count c.loop-high.flanks _ _ c.loop-high.invariant.0 c.settle_some.ensures.enough c.settle_some.ensures.most c.loop-high.invariant.1.1.1.1.0 c.settle_some.ensures.counted c.settle_some.ensures.flanked in
    let ec = cells-more c.args.low c.loop-high.high c.args.w c.loop-high.cells c.loop-high.invariant.0 c.loop-high.invariant.1.1.0 in (
      omega (arith, c.loop-high.invariant.0),
      (
        omega (arith, c.loop-high-test.true),
        (
          ec ∙ ap (λ n. n * c.args.w) (back-left c.loop-high.high c.args.low),
          (
            c.settle_some.auto.side ∙ c.loop-high.invariant.1.1.1.0,
            (
              running_on _ _ _ _ _ _ _ _ w,
              λ f k. price_step f (sheet c.args.sums.now c.args.widths.now c.args.ys.now c.args.rule c.args.rows c.args.w c.args.n) c.loop-high.side _ c.args.low c.loop-high.high _ _ c.loop-high.count _ c.loop-high.flanks _ c.requires.measured (c.loop-high.invariant.1.1.1.1.1 f k) c.loop-high.invariant.0 c.loop-high-test.true ec c.span-height.ensures.0 w c.settle_some.ensures,
            ),
          ),
        ),
      ),
    )

pub returns : goal.returns
returns c = λ f k. priced-end f (sheet c.args.sums.now c.args.widths.now c.args.ys.now c.args.rule c.args.rows c.args.w c.args.n) c.loop-high.side c.args.low c.loop-high.high c.loop-high-test.false c.loop-high.invariant.1.0 (c.loop-high.invariant.1.1.1.1.1 f k)
