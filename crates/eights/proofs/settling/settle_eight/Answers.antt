-- `eights::settling::settle_eight` meets its contract: the pieces that begin at the line b or above are settled. Assumes nothing.
use Prim.Native.Nat.{◌<◌}
use native.Mathlib.Omega.{arith}
use Rattle.table.proofs.Entry.{count_most}
use Rattle.table.proofs.Pairs.{first-all, first_back, first-enough}
use Rattle.eights.specs.Price.{sheet_of}
use Rattle.eights.proofs.Pricing.{within_same, within-join, within-below, prices_on, ahead-all, ahead-back, known-none, known-back, known-zero}
use Rattle.eights.proofs.settling.settle_eight.Goals as goal

pub weigh_vertical-requires : goal.weigh_vertical-requires
weigh_vertical-requires c = ((c.requires.measured.wide-some, omega (arith, c.requires.measured.within, c.requires.w_in_bounds.1.0)), (omega (arith, c.requires.measured.pairs_are, count_most c.args.strips.rows c.requires.measured.rows-most), (c.requires.w_in_bounds.1.1, c.requires.w_in_bounds.0)))

pub loop-b-init : goal.loop-b-init
loop-b-init c = (
  first-all c.args.strips.rows c.args.strips.pairs c.requires.measured.pairs_are,
  (
    within_same _ _ _ _,
    (ahead-all (sheet_of c.args.strips) c.args.store.now _ c.args.g c.requires.measured c.weigh_vertical.ensures.within c.weigh_vertical.ensures.by_index, λ f q. known-none f (sheet_of c.args.strips) _ c.args.g),
  ),
)

pub overflow_sub-first-in-loop-b : goal.overflow_sub-first-in-loop-b
overflow_sub-first-in-loop-b c = omega (arith, first-enough c.args.strips.rows c.loop-b.b c.loop-b.first (omega arith) c.loop-b.invariant.0)

pub settle_from-requires : goal.settle_from-requires
settle_from-requires c =
    let t : 0 < c.loop-b.b = omega arith in
    record { measured = c.requires.measured; low_lt_rows = (omega (arith, t), (first_back c.args.strips.rows c.loop-b.b c.loop-b.first t c.loop-b.invariant.0, (omega (arith, c.requires.w_in_bounds.0, c.loop-b.invariant.1.0.long, c.weigh_vertical.ensures.within.long), c.requires.w_in_bounds.1))); ahead = ahead-back (sheet_of c.args.strips) c.loop-b.store c.args.g c.loop-b.b t c.loop-b.invariant.1.1.0 }

pub loop-b-preserved : goal.loop-b-preserved
loop-b-preserved c =
    let t : 0 < c.loop-b.b = omega arith in (
      first_back c.args.strips.rows c.loop-b.b c.loop-b.first t c.loop-b.invariant.0,
      (
        within-join _ _ _ _ c.loop-b.store _ c.loop-b.invariant.1.0 c.settle_from.ensures.within,
        (
          c.settle_from.ensures.ahead_2,
          λ f q. c.settle_from.ensures.by_index f (prices_on (sheet_of c.args.strips) c.requires.measured _ c.loop-b.store (within-below _ _ _ _ _ c.loop-b.invariant.1.0) f q) (known-back f (sheet_of c.args.strips) c.loop-b.store c.args.g c.loop-b.b t (c.loop-b.invariant.1.1.1 f q)),
        ),
      ),
    )

pub returns : goal.returns
returns c = record { within = within-join _ _ _ _ _ _ c.weigh_vertical.ensures.within c.loop-b.invariant.1.0; by_index = λ f q. known-zero f (sheet_of c.args.strips) c.loop-b.store c.args.g c.loop-b.b (omega arith) (c.loop-b.invariant.1.1.1 f (prices_on (sheet_of c.args.strips) c.requires.measured c.args.store.now _ (within-below _ _ _ _ _ c.weigh_vertical.ensures.within) f q)) }
