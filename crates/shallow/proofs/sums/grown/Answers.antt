-- `shallow::sums::grown` meets its contract. Assumes nothing.
use Rattle.shallow.proofs.Summing.{grown-made}
use Rattle.shallow.proofs.sums.grown.Goals as goal

pub returns : goal.returns
returns c =
    grown-made c.args.cells.now c.args.rule c.args.strip c.args.step c.args.j c.args.row _ _ _ _ _
    c.count-inside.ensures.0
    c.below-under.ensures
    c.exposed-bottom.ensures.0
    c.exposed-top.ensures.0
    c.flanks-flanks.ensures.0
