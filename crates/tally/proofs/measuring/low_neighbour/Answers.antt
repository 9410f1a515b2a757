-- `tally::measuring::low_neighbour` meets its contract. Assumes nothing.
use Rattle.tally.proofs.Shares.{neighbour_first, neighbour_later}
use Rattle.tally.proofs.measuring.low_neighbour.Goals as goal

pub returns-then-k-eq0 : goal.returns-then-k-eq0
returns-then-k-eq0 c = neighbour_first _ _ _ _ c.if-k-eq0.true c.requires.1.0

pub returns : goal.returns
returns c = neighbour_later _ _ _ _ c.if-k-eq0.false c.requires.0
