-- `shallow::rows::ArraySums2Rows::settle` meets its contract. Assumes nothing.
use mathlib.Core.Path.{refl}
use native.Mathlib.Omega.{arith}
use Rattle.shallow.specs.Rows.{three_at}
use Rattle.shallow.proofs.Settling.{pairs-two}
use Rattle.shallow.proofs.Filling.{settled-two, room-settled, two-right}
use Rattle.shallow.proofs.rows.ArraySums2Rows.settle.Goals as goal

pub two_rows-costs-requires : goal.two_rows-costs-requires
two_rows-costs-requires c = (c.requires.0, 0, settled-two _ _ _ _ _ 0 c.requires.1)

pub store-requires : goal.store-requires
store-requires c = omega (arith, room-settled _ _ _ _ _ 2 c.requires.1, pairs-two 2 refl)

pub returns : goal.returns
returns c g k =
    record {
      costs = three_at c.two_rows-costs.result;
      wrote = c.store.ensures;
      right = two-right g _ _ _ _ (c.two_rows-costs.ensures g 0 (settled-two _ _ _ _ _ 0 k));
    }
