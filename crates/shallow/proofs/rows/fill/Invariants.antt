-- `shallow::rows::fill` meets its contract: the strips that end at the x line `last` or below it are filled. Assumes nothing.
use Prim.Native.Nat.{ℕ, suc, ◌+◌, ◌-◌, ◌<◌}
use Rattle.outline.specs.Grid.{stored}
use Rattle.shallow.specs.Sums.{Summed}
use Rattle.shallow.proofs.Filling.{Strips}
use Rattle.shallow.proofs.rows.fill.Given as goal

abbrev pub invariant-loop-last : goal.invariant-loop-last
invariant-loop-last g l =
    let m = g.R.Rows in
    Strips (stored l.columns m.ROWS l.xs l.ys l.cells) l.rule l.a.0 (l.last + 1) l.at l.initial.table l.table
    × ((j : ℕ) → j < m.ROWS → Summed (stored l.columns m.ROWS l.xs l.ys l.cells) l.a.0 (l.last + 1 - 1) j (suc j) (m.row l.rows j))
