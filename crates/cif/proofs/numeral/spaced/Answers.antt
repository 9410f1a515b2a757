-- `cif::numeral::spaced` meets its contract. Assumes nothing.
use native.Mathlib.Omega.{arith}
use Rattle.cif.proofs.Numerals.{spaced_past, spaced_other, spaced_told}
use Rattle.cif.proofs.numeral.spaced.Goals as goal

pub returns-then-text-at : goal.returns-then-text-at
returns-then-text-at c = spaced_past c.args.text.now c.args.at (omega arith)

pub returns-then-text-at-ne-SPACE : goal.returns-then-text-at-ne-SPACE
returns-then-text-at-ne-SPACE c = spaced_other c.args.text.now c.args.at c.if-text-at-ne-SPACE.true

pub returns : goal.returns
returns c = spaced_told c.args.text.now c.args.at c.number.result (omega arith) c.if-text-at-ne-SPACE.false c.number.ensures
