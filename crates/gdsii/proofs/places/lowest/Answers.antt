-- `lowest` meets its contract: the lowest so far, and the points still to come. Assumes nothing.
use mathlib.Core.Path.{◌∙◌}
use native.Mathlib.Omega.{arith}
use Rattle.gdsii.proofs.Points.{lowest-first, lowest-next, lowest-none}
use Rattle.gdsii.proofs.places.lowest.Goals as goal

pub loop-i-init : goal.loop-i-init
loop-i-init c = lowest-first _ _ _ _ _

pub place_at-requires : goal.place_at-requires
place_at-requires c = omega (arith, c.requires.bytes)

pub loop-i-preserved : goal.loop-i-preserved
loop-i-preserved c = lowest-next _ _ _ _ _ _ _ _ c.place_at.ensures c.min-low.ensures (omega arith) ∙ c.loop-i.invariant

pub returns : goal.returns
returns c = lowest-none _ _ _ _ _ (omega arith) ∙ c.loop-i.invariant
