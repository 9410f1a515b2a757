-- `fracture::pinwheel::turns_of` meets its contract. Assumes nothing.
use mathlib.Core.Logic.{inl, inr}
use native.Mathlib.Omega.{arith}
use Rattle.fracture.proofs.pinwheel.turns_of.Goals as goal

pub returns-then-columns-lt3 : goal.returns-then-columns-lt3
returns-then-columns-lt3 c = inl (omega (arith, c.if-columns-lt3.true))

pub returns-then-rows-lt3 : goal.returns-then-rows-lt3
returns-then-rows-lt3 c = inr (omega (arith, c.if-rows-lt3.true))

pub returns-then-columns-gt-FEW : goal.returns-then-columns-gt-FEW
returns-then-columns-gt-FEW c = tt

pub returns-then-rows-gt-FEW : goal.returns-then-rows-gt-FEW
returns-then-rows-gt-FEW c = tt

pub returns : goal.returns
returns c = (omega (arith, c.if-columns-lt3.false), (omega (arith, c.if-rows-lt3.false), omega (arith, c.if-rows-gt-FEW.false)))
