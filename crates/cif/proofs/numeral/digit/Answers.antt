-- `cif::numeral::digit` meets its contract. Assumes nothing.
use native.Mathlib.Omega.{arith}
use Rattle.cif.proofs.Numerals.{digit_past, digit_there}
use Rattle.cif.proofs.numeral.digit.Goals as goal

pub returns-then-text-at : goal.returns-then-text-at
returns-then-text-at c = digit_past _ _ (omega arith)

pub returns : goal.returns
returns c = digit_there _ _ _ (omega arith) c.worth.ensures
