-- `shallow::rows::store_four` meets its contract. Assumes nothing.
use Rattle.shallow.proofs.Settling.{four_wrote}
use Rattle.shallow.proofs.rows.store_four.Goals as goal

pub returns : goal.returns
returns c = four_wrote c.args.table.now _ c.args.at c.args.four c.requires c.store.ensures
