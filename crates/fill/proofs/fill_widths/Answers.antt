-- `fill::fill_widths` meets its contract. Assumes nothing.
use Rattle.fill.proofs.Filled.{filled-short, filled-long}
use Rattle.fill.proofs.fill_widths.Goals as goal

pub returns-then-fill : goal.returns-then-fill
returns-then-fill g c = filled-short _ _ _ _ c.fill.result c.if-fill.true c.fill.ensures

pub returns : goal.returns
returns g c = filled-long _ _ _ _ _ c.fill.result c.if-fill.false c.fill.ensures c.fill_straight.ensures
