-- `shallow::rows::three_cuts` meets its contract: the cuts are weighed from the lowest on. Assumes nothing.
use Rattle.shallow.proofs.Settling.{least-made}
use Rattle.shallow.proofs.rows.three_cuts.Goals as goal

pub returns : goal.returns
returns c = least-made c.args.best _ _ _ c.args.below c.args.above c.min-first.ensures c.min-second.ensures c.min.ensures
