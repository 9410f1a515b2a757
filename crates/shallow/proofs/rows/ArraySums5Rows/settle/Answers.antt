-- `shallow::rows::ArraySums5Rows::settle` meets its contract. Assumes nothing.
use mathlib.Core.Path.{refl}
use native.Mathlib.Omega.{arith}
use Rattle.shallow.proofs.Settling.{pairs-five, four-top, four-upper, four-lowest, fifteen_at, fifteen_wrote}
use Rattle.shallow.proofs.Filling.{settled-four, settled-five, room-settled, pairs-settled, five-right}
use Rattle.shallow.proofs.rows.ArraySums5Rows.settle.Goals as goal

pub two_rows-top-requires : goal.two_rows-top-requires
two_rows-top-requires c = (c.requires.0, 3, four-top _ _ _ _ _ _ _ _ _ (settled-four _ _ _ _ _ 1 c.requires.1))

pub third_row-upper-requires : goal.third_row-upper-requires
third_row-upper-requires c =
    let rows = settled-four _ _ _ _ _ 1 c.requires.1 in
    let top = c.two_rows-top.ensures _ 3 (four-top _ _ _ _ _ _ _ _ _ rows) in
    (c.requires.0, 2, four-upper _ _ _ _ _ _ _ _ _ rows 9 _ (omega (arith, pairs-settled _ _ _ _ _ 5 c.requires.1, pairs-five 5 refl)) top)

pub fourth_row-middle-requires : goal.fourth_row-middle-requires
fourth_row-middle-requires c =
    let rows = settled-four _ _ _ _ _ 1 c.requires.1 in
    let top = c.two_rows-top.ensures _ 3 (four-top _ _ _ _ _ _ _ _ _ rows) in
    let upper = c.third_row-upper.ensures _ 2 (four-upper _ _ _ _ _ _ _ _ _ rows 9 _ (omega (arith, pairs-settled _ _ _ _ _ 5 c.requires.1, pairs-five 5 refl)) top) in
    (c.requires.0, 1, four-lowest _ _ _ _ _ _ _ _ _ rows 5 _ _ (omega (arith, pairs-settled _ _ _ _ _ 5 c.requires.1, pairs-five 5 refl)) upper top)

pub fifth_row-low-requires : goal.fifth_row-low-requires
fifth_row-low-requires c =
    let rows = settled-four _ _ _ _ _ 1 c.requires.1 in
    let top = c.two_rows-top.ensures _ 3 (four-top _ _ _ _ _ _ _ _ _ rows) in
    let upper = c.third_row-upper.ensures _ 2 (four-upper _ _ _ _ _ _ _ _ _ rows 9 _ (omega (arith, pairs-settled _ _ _ _ _ 5 c.requires.1, pairs-five 5 refl)) top) in
    let middle = c.fourth_row-middle.ensures _ 1 (four-lowest _ _ _ _ _ _ _ _ _ rows 5 _ _ (omega (arith, pairs-settled _ _ _ _ _ 5 c.requires.1, pairs-five 5 refl)) upper top) in
    (c.requires.0, settled-five _ _ _ _ _ c.requires.1 _ _ _ middle upper top)

pub store_five-requires : goal.store_five-requires
store_five-requires c = omega (arith, room-settled _ _ _ _ _ 5 c.requires.1, pairs-five 5 refl)

pub overflow_add-strip : goal.overflow_add-strip
overflow_add-strip c = omega (arith, room-settled _ _ _ _ _ 5 c.requires.1)

pub store_ten-requires : goal.store_ten-requires
store_ten-requires c = omega (arith, room-settled _ _ _ _ _ 5 c.requires.1, pairs-five 5 refl, c.store_five.ensures.long)

pub returns : goal.returns
returns c g k =
    let rows = settled-four _ _ _ _ _ 1 k in
    let top = c.two_rows-top.ensures g 3 (four-top _ _ _ _ _ _ _ _ _ rows) in
    let upper = c.third_row-upper.ensures g 2 (four-upper _ _ _ _ _ _ _ _ _ rows 9 _ (omega (arith, pairs-settled _ _ _ _ _ 5 k, pairs-five 5 refl)) top) in
    let middle = c.fourth_row-middle.ensures g 1 (four-lowest _ _ _ _ _ _ _ _ _ rows 5 _ _ (omega (arith, pairs-settled _ _ _ _ _ 5 k, pairs-five 5 refl)) upper top) in
    let low = c.fifth_row-low.ensures g (settled-five _ _ _ _ _ k _ _ _ middle upper top) in
    record {
      costs = fifteen_at c.fifth_row-low.result c.fourth_row-middle.result c.third_row-upper.result c.two_rows-top.result;
      wrote = fifteen_wrote _ _ _ _ _ _ _ _ c.store_five.ensures c.store_ten.ensures;
      right = five-right g _ _ _ _ _ _ _ low middle upper top;
    }
