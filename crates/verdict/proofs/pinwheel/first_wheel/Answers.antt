-- `verdict::pinwheel::first_wheel` meets its contract. Assumes nothing.
use mathlib.Core.Logic.{inl, inr}
use Rattle.verdict.proofs.Search.{some-of, some-said}
use Rattle.verdict.proofs.pinwheel.first_wheel.Goals as goal

pub returns-in-Some : goal.returns-in-Some
returns-in-Some c = inl c.in-Some.ensures

pub unwrap-requires : goal.unwrap-requires
unwrap-requires c = some-of _ _ (λ n. c.requires.some c.in_default.ensures n) c.lowest_wheel-2.ensures

pub returns : goal.returns
returns c = inr (c.in_default.ensures, some-said _ _ _ _ c.unwrap.ensures c.lowest_wheel-2.ensures)
