-- `eights::settling::settle` meets its contract: the strips in the lanes below g are settled. Assumes nothing.
use Prim.Native.Nat.{◌+◌}
use native.Mathlib.Omega.{arith}
use Rattle.eights.specs.Price.{sheet_of}
use Rattle.eights.proofs.Pricing.{eights_more, eights_end}
use Rattle.eights.proofs.settling.settle.Goals as goal

pub loop-g-preserved : goal.loop-g-preserved
loop-g-preserved c = eights_more (sheet_of c.args.strips) c.args.store.now c.loop-g.store _ c.loop-g.g c.requires.measured (omega arith) c.loop-g.invariant c.settle_eight.ensures.within c.settle_eight.ensures.by_index

pub returns-2 : goal.returns-2
returns-2 c =
    let t = sheet_of c.args.strips in
    let m = eights_more t c.args.store.now c.loop-g.store _ c.loop-g.g c.requires.measured (omega arith) c.loop-g.invariant c.settle_eight.ensures.within c.settle_eight.ensures.by_index in
    record { by_index = m.before; by_index_2 = eights_end t c.args.store.now _ (c.loop-g.g + 8) (omega arith) m }
