-- `cif::numeral::number` meets its contract. Assumes nothing.
use native.Mathlib.Omega.{arith}
use Rattle.cif.proofs.Numerals.{number_missing, number-zero, number-start, number_more, number_six, number-ended}
use Rattle.cif.proofs.numeral.number.Goals as goal

pub returns-in_err-first : goal.returns-in_err-first
returns-in_err-first c = rw c.from_residual.ensures (number_missing _ _ c.in_err-first.ensures)

pub returns-then-first-eq0 : goal.returns-then-first-eq0
returns-then-first-eq0 c = number-zero _ _ _ c.in_ok-first.ensures c.if-first-eq0.true

pub loop-value-init : goal.loop-value-init
loop-value-init c = number-start _ _ _ c.in_ok-first.ensures c.if-first-eq0.false

pub returns-in_default : goal.returns-in_default
returns-in_default c = number-ended _ _ _ _ c.loop-value.invariant c.in_default.ensures

pub loop-value-preserved : goal.loop-value-preserved
loop-value-preserved c = number_more _ _ _ _ c.loop-value.invariant _ (omega arith) c.in-Some.ensures

pub returns : goal.returns
returns c = number_six _ _ _ _ c.loop-value.invariant (omega arith)
