-- `wheels::lanes::inner_spot` meets its contract. Assumes nothing.
use Rattle.std.proofs.Common.{ℕ, ◌<◌, ◌≤◌, ◌⊎◌, ◌∙◌, inl, inr, arith}
use Rattle.wheels.proofs.Costs.{inner-low, inner-high}
use Rattle.wheels.proofs.lanes.inner_spot.Goals as goal

above : (x line : ℕ) → (x < line) ⊎ (line < x) → line ≤ x → line < x
above x line (inl h) k = omega arith
above x line (inr h) k = h

pub returns-then-x-line : goal.returns-then-x-line
returns-then-x-line c = c.spot.ensures ∙ inner-low _ _ _ _ (omega arith)

pub spot-requires-2 : goal.spot-requires-2
spot-requires-2 c =
    let h = above c.args.x c.args.line c.requires.0 c.if-x-line.false in
    (omega (arith, h), (omega (arith, c.requires.1.1.0), (c.requires.1.1.1.0, (c.requires.1.1.1.1, c.requires.1.0))))

pub returns : goal.returns
returns c = c.spot-2.ensures ∙ inner-high _ _ _ _ (above _ _ c.requires.0 c.if-x-line.false)
