-- `tally::measuring::put_shares` meets its contract. Assumes nothing.
use Rattle.tally.proofs.Shares.{put_five}
use Rattle.tally.proofs.measuring.put_shares.Goals as goal

pub returns : goal.returns
returns c = rw c.from.ensures (put_five _ _ _ _ _ _ _ c.requires.0 c.requires.1)
