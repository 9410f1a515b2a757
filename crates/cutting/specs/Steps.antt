-- Inner: one step of the search for the cheapest cut (nobody has to believe these).
--
--   Cheaper weigh found cut r == r is what was found, where the cut weighs no less, and else the cut
use Rattle.std.specs.Prelude.{ℕ, ◌≤◌, ◌<◌, ◌≡◌, ◌⊎◌, Option, None, Some}
use Rattle.cutting.specs.declared.Cut.{Cut}

abbrev pub Cheaper : (Cut → ℕ) → Option Cut → Cut → Option Cut → Type 0
Cheaper weigh None cut r = r ≡ Some cut
Cheaper weigh (Some best) cut r = ((weigh best ≤ weigh cut) × (r ≡ Some best)) ⊎ ((weigh cut < weigh best) × (r ≡ Some cut))
