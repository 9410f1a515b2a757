-- `count::flat::reach_from` meets its contract. Assumes nothing.
use mathlib.Core.Path.{refl}
use Rattle.count.proofs.Singles.{reach_made}
use Rattle.count.proofs.flat.reach_from.Goals as goal

pub returns : goal.returns
returns c = reach_made _ _ _ _ _ _ _ refl refl c.farther.ensures
