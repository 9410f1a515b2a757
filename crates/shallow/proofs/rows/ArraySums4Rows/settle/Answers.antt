-- `shallow::rows::ArraySums4Rows::settle` meets its contract. Assumes nothing.
use mathlib.Core.Path.{refl}
use native.Mathlib.Omega.{arith}
use Rattle.shallow.specs.Rows.{ten_at}
use Rattle.shallow.proofs.Settling.{pairs-four, four-top, four-upper, four-lowest}
use Rattle.shallow.proofs.Filling.{settled-four, room-settled, pairs-settled, four-right}
use Rattle.shallow.proofs.rows.ArraySums4Rows.settle.Goals as goal

pub two_rows-top-requires : goal.two_rows-top-requires
two_rows-top-requires c = (c.requires.0, 2, four-top _ _ _ _ _ _ _ _ _ (settled-four _ _ _ _ _ 0 c.requires.1))

pub third_row-upper-requires : goal.third_row-upper-requires
third_row-upper-requires c =
    let rows = settled-four _ _ _ _ _ 0 c.requires.1 in
    let top = c.two_rows-top.ensures _ 2 (four-top _ _ _ _ _ _ _ _ _ rows) in
    (c.requires.0, 1, four-upper _ _ _ _ _ _ _ _ _ rows 4 _ (omega (arith, pairs-settled _ _ _ _ _ 4 c.requires.1, pairs-four 4 refl)) top)

pub fourth_row-low-requires : goal.fourth_row-low-requires
fourth_row-low-requires c =
    let rows = settled-four _ _ _ _ _ 0 c.requires.1 in
    let top = c.two_rows-top.ensures _ 2 (four-top _ _ _ _ _ _ _ _ _ rows) in
    let upper = c.third_row-upper.ensures _ 1 (four-upper _ _ _ _ _ _ _ _ _ rows 4 _ (omega (arith, pairs-settled _ _ _ _ _ 4 c.requires.1, pairs-four 4 refl)) top) in
    (c.requires.0, 0, four-lowest _ _ _ _ _ _ _ _ _ rows 0 _ _ (omega (arith, pairs-settled _ _ _ _ _ 4 c.requires.1, pairs-four 4 refl)) upper top)

pub store_ten-requires : goal.store_ten-requires
store_ten-requires c = omega (arith, room-settled _ _ _ _ _ 4 c.requires.1, pairs-four 4 refl)

pub returns : goal.returns
returns c g k =
    let rows = settled-four _ _ _ _ _ 0 k in
    let top = c.two_rows-top.ensures g 2 (four-top _ _ _ _ _ _ _ _ _ rows) in
    let upper = c.third_row-upper.ensures g 1 (four-upper _ _ _ _ _ _ _ _ _ rows 4 _ (omega (arith, pairs-settled _ _ _ _ _ 4 k, pairs-four 4 refl)) top) in
    let low = c.fourth_row-low.ensures g 0 (four-lowest _ _ _ _ _ _ _ _ _ rows 0 _ _ (omega (arith, pairs-settled _ _ _ _ _ 4 k, pairs-four 4 refl)) upper top) in
    record {
      costs = ten_at c.fourth_row-low.result c.third_row-upper.result c.two_rows-top.result;
      wrote = c.store_ten.ensures;
      right = four-right g _ _ _ _ _ _ low upper top;
    }
