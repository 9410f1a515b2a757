-- `shallow::sums::empty` meets its contract. Assumes nothing.
use Rattle.shallow.specs.Sums.{empty_of}
use Rattle.shallow.proofs.Summing.{empty-made}
use Rattle.shallow.proofs.sums.empty.Goals as goal

pub returns : goal.returns
unfolding empty_of
returns c = empty-made _ _ c.span-height.ensures.0
