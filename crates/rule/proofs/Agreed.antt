-- Slivers in numbers, by the rule 25, 40. Assumes nothing.
--
--   sliver-rows   == a shot of 100 by 20 nm has its level sides for its sliver length and one of 20 by 100 its upright ones; one of 100 by 30
--                    has none
use mathlib.Core.Path.{◌≡◌, refl}
use Rattle.rule.specs.declared.Rule.{Rule}
use Rattle.rule.specs.Charge.{sliver_of, longer}

abbrev usual : Rule
usual = record { threshold = 25; weight = 40 }

pub sliver-rows : (sliver_of usual 100 20 40 150 ≡ 150) × (sliver_of usual 20 100 150 40 ≡ 150) × (sliver_of usual 100 30 60 150 ≡ 0)
unfolding sliver_of longer
sliver-rows = (refl, refl, refl)
