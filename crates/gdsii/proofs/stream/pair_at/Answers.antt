-- `pair_at` meets its contract: the bytes at the place and after it. Assumes nothing.
use Rattle.gdsii.specs.Record.{pair_at}
use Rattle.gdsii.proofs.stream.pair_at.Goals as goal

pub returns : goal.returns
unfolding pair_at
returns c = c.pair.ensures
