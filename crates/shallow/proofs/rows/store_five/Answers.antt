-- `shallow::rows::store_five` meets its contract. Assumes nothing.
use Rattle.shallow.proofs.Settling.{five_wrote}
use Rattle.shallow.proofs.rows.store_five.Goals as goal

pub returns : goal.returns
returns c = five_wrote c.args.table.now _ c.args.at c.args.five c.requires c.store_four.ensures
