-- `join::set_partner` meets its contract. Assumes nothing.
use mathlib.Core.Path.{refl}
use Rattle.join.specs.Join.{at}
use Rattle.join.specs.Steps.{mated}
use Rattle.join.proofs.Tables.{partner_set}
use Rattle.join.proofs.set_partner.Goals as goal

pub returns : goal.returns
unfolding at mated
returns c = partner_set _ _ _ _ refl
