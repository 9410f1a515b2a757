-- `shallow::fill_from` meets its contract: each way promises the same of its count of rows. Assumes nothing.
use mathlib.Core.Path.{◌≡◌}
use native.Mathlib.Omega.{arith}
use Rattle.table.proofs.Fill.{fill_limits}
use Rattle.shallow.proofs.Filling.{to-ready, to-reached, back-filled}
use Rattle.shallow.proofs.fill_from.Goals as goal

pub fill-requires-in_default-clause-ready : goal.fill-requires-in_default-clause-ready
fill-requires-in_default-clause-ready c =
    let five : c.args.rows ≡ 5 = omega (arith, c.in_default, c.requires.rows_bound.0, fill_limits _ _ _ _ _ _ _ c.requires.ready) in
    to-ready _ _ _ five _ _ _ _ _ c.requires.ready

pub fill-requires-in_default-clause-reached : goal.fill-requires-in_default-clause-reached
fill-requires-in_default-clause-reached c =
    let five : c.args.rows ≡ 5 = omega (arith, c.in_default, c.requires.rows_bound.0, fill_limits _ _ _ _ _ _ _ c.requires.ready) in
    to-reached _ _ _ five _ _ _ _ _ _ _ c.requires.reached

pub returns-in_default-clause-reached_2 : goal.returns-in_default-clause-reached_2
returns-in_default-clause-reached_2 c =
    let five : c.args.rows ≡ 5 = omega (arith, c.in_default, c.requires.rows_bound.0, fill_limits _ _ _ _ _ _ _ c.requires.ready) in
    (back-filled _ _ _ five _ _ _ _ _ _ _ _ (c.fill-in_default.ensures.reached_2, c.fill-in_default.ensures.beyond)).0

pub returns-in_default-clause-beyond : goal.returns-in_default-clause-beyond
returns-in_default-clause-beyond c =
    let five : c.args.rows ≡ 5 = omega (arith, c.in_default, c.requires.rows_bound.0, fill_limits _ _ _ _ _ _ _ c.requires.ready) in
    (back-filled _ _ _ five _ _ _ _ _ _ _ _ (c.fill-in_default.ensures.reached_2, c.fill-in_default.ensures.beyond)).1
