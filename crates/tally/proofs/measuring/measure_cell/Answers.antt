-- `tally::measuring::measure_cell` meets its contract. Assumes nothing.
use Rattle.tally.proofs.Shares.{put-shares}
use Rattle.tally.proofs.measuring.measure_cell.Goals as goal

pub returns : goal.returns
returns c = put-shares _ _ _ _ _ _ _ _ _ _ _ _ _ _ _ _ _ _ _ c.look_around-around.ensures.spans c.look_around-around.ensures.around c.exposed.ensures.0 c.exposed-2.ensures.0 c.exposed-3.ensures.0 c.exposed-4.ensures.0 c.put_shares.ensures
