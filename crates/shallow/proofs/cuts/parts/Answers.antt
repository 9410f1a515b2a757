-- `shallow::cuts::parts` meets its contract. Assumes nothing.
use mathlib.Core.Path.{refl}
use Rattle.shallow.proofs.cuts.parts.Goals as goal

pub returns : goal.returns
returns c = refl
