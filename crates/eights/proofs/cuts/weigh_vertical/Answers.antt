-- `eights::cuts::weigh_vertical` meets its contract: the cuts less than v columns from the first line are weighed. Assumes nothing.
use Prim.Native.Nat.{◌+◌}
use mathlib.Core.Path.{refl}
use Rattle.eights.proofs.Pricing.{within-join}
use Rattle.eights.proofs.Lines.{laid-within, lines_none, lines-one, lines_two, lines_end}
use Rattle.eights.proofs.cuts.weigh_vertical.Goals as goal

pub loop-v-init : goal.loop-v-init
loop-v-init c = lines_none c.args.pairs c.args.w c.args.g _ _ _ refl c.requires.0.0 c.clear.ensures

pub loop-v-preserved : goal.loop-v-preserved
loop-v-preserved c = lines_two c.args.pairs c.args.w c.args.g _ c.loop-v.v c.loop-v.low c.loop-v.high _ c.loop-v.store _ refl c.loop-v.invariant c.loop-v-test.true c.weigh_lines.ensures

pub returns-then-v-w : goal.returns-then-v-w
returns-then-v-w c =
    let n = laid-within _ _ c.args.pairs c.args.w c.args.g _ c.args.store.now _ refl c.clear.ensures in
    let m = lines-one c.args.pairs c.args.w c.args.g _ c.loop-v.v c.loop-v.low c.loop-v.high _ c.loop-v.store _ refl c.loop-v.invariant c.if-v-w.true c.weigh_line.ensures in
    record { within = within-join _ _ _ _ _ _ n m.within; by_index = lines_end c.args.pairs c.args.w c.args.g (c.loop-v.v + 1) _ _ c.args.store.now _ _ c.loop-v-test.false n m }

pub returns-else-v-w : goal.returns-else-v-w
returns-else-v-w c =
    let n = laid-within _ _ c.args.pairs c.args.w c.args.g _ c.args.store.now _ refl c.clear.ensures in
    record { within = within-join _ _ _ _ _ _ n c.loop-v.invariant.within; by_index = lines_end c.args.pairs c.args.w c.args.g c.loop-v.v c.loop-v.low c.loop-v.high c.args.store.now _ _ c.if-v-w.false n c.loop-v.invariant }
