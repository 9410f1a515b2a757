-- `edge::ending::side_of` meets its contract. Assumes nothing.
use mathlib.Core.Path.{sym, ◌∙◌, ap}
use Rattle.edge.specs.Steps.{side_no}
use Rattle.edge.proofs.Laws.{low_x, low-y, by-x, by-y}
use Rattle.edge.proofs.ending.side_of.Goals as goal

pub returns-in-X : goal.returns-in-X
returns-in-X c = ap (λ n. side_no n c.side_on.result) (sym (low_x _ c.in-X.is)) ∙ c.side_on.ensures 1 ∙ by-x _ _ _ _ _ _ _ c.in-X.is

pub returns-in-Y : goal.returns-in-Y
returns-in-Y c = ap (λ n. side_no n c.side_on-in-Y.result) (sym (low-y _ c.in-Y.is)) ∙ c.side_on-in-Y.ensures 3 ∙ by-y _ _ _ _ _ _ _ c.in-Y.is
