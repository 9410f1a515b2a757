-- `shallow::rows::store` meets its contract. Assumes nothing.
use Rattle.shallow.proofs.Settling.{three_wrote}
use Rattle.shallow.proofs.rows.store.Goals as goal

pub returns : goal.returns
returns c = three_wrote c.args.table.now c.args.at c.args.three c.requires
