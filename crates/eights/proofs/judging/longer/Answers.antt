-- `eights::judging::longer` meets its contract. Assumes nothing.
use mathlib.Core.Path.{◌∙◌, ap₂}
use Prim.Native.Nat.{max}
use Rattle.eights.proofs.Judge.{longer-made}
use Rattle.eights.proofs.judging.longer.Goals as goal

pub returns : goal.returns
returns c = longer-made _ _ _ _ _ (c.max.ensures ∙ ap₂ max c.counted.ensures c.counted-2.ensures)
