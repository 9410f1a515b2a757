-- `highest` meets its contract: the highest so far, and the points still to come. Assumes nothing.
use mathlib.Core.Path.{◌∙◌}
use native.Mathlib.Omega.{arith}
use Rattle.gdsii.proofs.Points.{highest-first, highest-next, highest-none}
use Rattle.gdsii.proofs.places.highest.Goals as goal

pub loop-i-init : goal.loop-i-init
loop-i-init c = highest-first _ _ _ _ _

pub place_at-requires : goal.place_at-requires
place_at-requires c = omega (arith, c.requires.bytes)

pub loop-i-preserved : goal.loop-i-preserved
loop-i-preserved c = highest-next _ _ _ _ _ _ _ _ c.place_at.ensures c.max-high.ensures (omega arith) ∙ c.loop-i.invariant

pub returns : goal.returns
returns c = highest-none _ _ _ _ _ (omega arith) ∙ c.loop-i.invariant
