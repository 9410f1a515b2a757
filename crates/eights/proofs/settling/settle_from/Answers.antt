-- `eights::settling::settle_from` meets its contract: the pieces that begin at the line low and end below the line high are settled. Assumes nothing.
use Prim.Native.Nat.{ℕ, ◌+◌, ◌*◌, ◌-◌}
use mathlib.Core.Path.{◌≡◌, refl, sym, ◌∙◌, ap}
use native.Mathlib.Omega.{arith}
use native.Mathlib.Nat.{zero-mul}
use Rattle.table.proofs.Pairs.{cells-more}
use Rattle.eights.specs.Price.{sheet_of}
use Rattle.eights.proofs.Pricing.{running_none, running_more, running_on, level_stands, within_same, within-join, within-settled, price_step, ahead_step}
use Rattle.eights.proofs.settling.settle_from.Goals as goal

zero_left : (b : ℕ) → b + 1 - 1 - b ≡ 0
zero_left b = omega arith

back-left : (d b : ℕ) → d - b ≡ d + 1 - 1 - b
back-left d b = omega arith

pub loop-high-init : goal.loop-high-init
loop-high-init c = (
  sym (ap (λ n. n * c.args.strips.width) (zero_left c.args.low) ∙ zero-mul c.args.strips.width),
  (running_none c.args.strips.sums.now c.args.strips.count c.args.g c.args.low, (within_same _ _ _ _, (c.requires.ahead, λ f p k. k))),
)

pub loop-high-preserved : goal.loop-high-preserved
loop-high-preserved c =
    let w = running_more (sheet_of c.args.strips) c.args.g c.args.low c.loop-high.high c.loop-high.count c.loop-high.flanks _ _ c.requires.measured (omega arith) (omega arith) c.loop-high.invariant.1.0 c.settle_level.ensures.wrote c.settle_level.ensures.wrote_2 in
    let ec = cells-more c.args.low c.loop-high.high c.args.strips.width c.loop-high.cells (omega arith) c.loop-high.invariant.0 in
    let z = level_stands (sheet_of c.args.strips) c.args.low c.loop-high.high c.args.first c.requires.measured (omega (arith, c.requires.low_lt_rows.1.1.1.0)) (omega arith) (omega arith) c.requires.low_lt_rows.1.0 in (
      ec ∙ ap (λ n. n * c.args.strips.width) (back-left c.loop-high.high c.args.low),
      (
        running_on _ _ _ _ _ _ _ w,
        (
          within-join _ _ _ _ c.loop-high.store _ c.loop-high.invariant.1.1.0 (within-settled _ _ _ _ _ _ _ _ _ _ _ _ z c.settle_level.ensures.settled),
          (
            ahead_step (sheet_of c.args.strips) c.loop-high.store _ c.args.g c.args.low c.loop-high.high c.args.first _ _ _ _ c.requires.measured (omega arith) (omega arith) c.settle_level.ensures.settled c.requires.low_lt_rows.1.1.1.1 c.loop-high.invariant.1.1.1.0,
            λ f q k. price_step f (sheet_of c.args.strips) _ c.loop-high.store _ c.args.g c.args.low c.loop-high.high c.args.first _ _ _ _ c.requires.measured (omega arith) (omega arith) ec refl w c.loop-high.invariant.1.1.0 q c.loop-high.invariant.1.1.1.0 (c.loop-high.invariant.1.1.1.1 f q k) c.settle_level.ensures.settled c.requires.low_lt_rows.1.1.1.1,
          ),
        ),
      ),
    )
