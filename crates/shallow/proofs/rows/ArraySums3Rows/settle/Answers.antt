-- `shallow::rows::ArraySums3Rows::settle` meets its contract. Assumes nothing.
use mathlib.Core.Path.{refl}
use native.Mathlib.Omega.{arith}
use Rattle.shallow.proofs.Settling.{pairs-three, six_at, six_wrote}
use Rattle.shallow.proofs.Filling.{settled-two, settled-three, room-settled, three-right}
use Rattle.shallow.proofs.rows.ArraySums3Rows.settle.Goals as goal

pub two_rows-above-requires : goal.two_rows-above-requires
two_rows-above-requires c = (c.requires.0, 1, settled-two _ _ _ _ _ 1 c.requires.1)

pub third_row-costs-requires : goal.third_row-costs-requires
third_row-costs-requires c =
    let k = c.requires.1 in
    let above = c.two_rows-above.ensures _ 1 (settled-two _ _ _ _ _ 1 k) in
    (c.requires.0, 0, settled-three _ _ _ _ _ k _ above)

pub store-requires : goal.store-requires
store-requires c = omega (arith, room-settled _ _ _ _ _ 3 c.requires.1, pairs-three 3 refl)

pub overflow_add-strip : goal.overflow_add-strip
overflow_add-strip c = omega (arith, room-settled _ _ _ _ _ 3 c.requires.1)

pub store-requires-2 : goal.store-requires-2
store-requires-2 c = omega (arith, room-settled _ _ _ _ _ 3 c.requires.1, pairs-three 3 refl, c.store.ensures.long)

pub returns : goal.returns
returns c g k =
    let above = c.two_rows-above.ensures g 1 (settled-two _ _ _ _ _ 1 k) in
    let low = c.third_row-costs.ensures g 0 (settled-three _ _ _ _ _ k _ above) in
    record {
      costs = six_at c.third_row-costs.result c.two_rows-above.result;
      wrote = six_wrote _ _ _ _ _ _ c.store.ensures c.store-2.ensures;
      right = three-right g _ _ _ _ _ low above;
    }
