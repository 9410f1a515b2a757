-- `shares::measuring::put_shares` meets its contract. Assumes nothing.
use Rattle.tally.proofs.Shares.{put_five}
use Rattle.shares.proofs.measuring.put_shares.Goals as goal

pub returns : goal.returns
returns c = rw c.from.ensures (put_five _ _ _ _ _ _ _ c.requires.short_len.0 c.requires.short_len.1)
