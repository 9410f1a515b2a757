-- `rule::longer` meets its contract: by which extent is the lesser. Assumes nothing.
use mathlib.Core.Path.{sym}
use native.Mathlib.Omega.{arith}
use Rattle.rule.proofs.Charge.{longer-upright, longer_level, longer-even}
use Rattle.rule.proofs.longer.Goals as goal

pub returns-then-width-height : goal.returns-then-width-height
returns-then-width-height c = sym (longer-upright _ _ _ _ (omega arith))

pub returns-then-height-width : goal.returns-then-height-width
returns-then-height-width c = sym (longer_level _ _ _ _ (omega arith))

pub returns : goal.returns
returns c = longer-even _ _ _ _ _ (omega arith) (omega arith) c.max.ensures
