-- `shallow::rows::ArraySums1Rows::settle` meets its contract. Assumes nothing.
use mathlib.Core.Path.{refl}
use native.Mathlib.Omega.{arith}
use Rattle.shallow.proofs.Settling.{pairs-one, one_wrote}
use Rattle.shallow.proofs.Filling.{settled-one, room-settled, one_right}
use Rattle.shallow.proofs.rows.ArraySums1Rows.settle.Goals as goal

pub one_row-requires : goal.one_row-requires
one_row-requires c = (c.requires.0, settled-one _ _ _ _ _ c.requires.1)

pub offset_bounds-table-strip : goal.offset_bounds-table-strip
offset_bounds-table-strip c = omega (arith, room-settled _ _ _ _ _ 1 c.requires.1)

pub bounds-table-strip : goal.bounds-table-strip
bounds-table-strip c = omega (arith, room-settled _ _ _ _ _ 1 c.requires.1, pairs-one 1 refl)

pub returns : goal.returns
returns c g k =
    record {
      costs = λ i. c.one_row.result;
      wrote = one_wrote _ _ _ (omega (arith, room-settled _ _ _ _ _ 1 k, pairs-one 1 refl));
      right = one_right g _ _ _ _ (c.one_row.ensures g (settled-one _ _ _ _ _ k));
    }
