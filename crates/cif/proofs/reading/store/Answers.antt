-- `cif::reading::store` meets its contract. Assumes nothing.
use native.Mathlib.Omega.{arith}
use Rattle.cif.proofs.Words.{store_none, store_more, store_end}
use Rattle.cif.proofs.reading.store.Goals as goal

pub returns-in_default : goal.returns-in_default
returns-in_default c = store_none c.args.text.now _ _ _ _ _ c.loop-i.invariant.1 (omega arith) c.in_default.ensures

pub loop-i-preserved : goal.loop-i-preserved
loop-i-preserved c =
    let b = c.in-Some.ensures in
    (b.within, store_more c.args.text.now _ _ _ _ _ c.loop-i.invariant.1 (omega arith) _ _ b _ c.put_shot.ensures)

pub returns : goal.returns
returns c = store_end c.args.text.now _ _ _ _ _ c.loop-i.invariant.1 (omega arith)
