-- `shallow::sums::stacked` meets its contract. Assumes nothing.
use mathlib.Core.Path.{refl}
use Rattle.shallow.specs.Sums.{stacked_of}
use Rattle.shallow.proofs.sums.stacked.Goals as goal

pub returns : goal.returns
unfolding stacked_of
returns c = refl
