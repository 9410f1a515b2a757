-- `shallow::rows::store_ten` meets its contract. Assumes nothing.
use native.Mathlib.Omega.{arith}
use Rattle.shallow.proofs.Settling.{ten_wrote}
use Rattle.shallow.proofs.rows.store_ten.Goals as goal

pub store-requires : goal.store-requires
store-requires c = omega (arith, c.requires, c.store_four.ensures.long)

pub store-requires-2 : goal.store-requires-2
store-requires-2 c = omega (arith, c.requires, c.store_four.ensures.long, c.store.ensures.long)

pub returns : goal.returns
returns c = ten_wrote c.args.table.now _ _ _ c.args.at c.args.low c.args.upper c.args.top c.store_four.ensures c.store.ensures c.store-2.ensures
