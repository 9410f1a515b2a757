-- `division::bad_largest` meets its contract. Assumes nothing.
use mathlib.Core.Path.{sym}
use mathlib.Core.Logic.{inl, inr}
use Rattle.division.proofs.Outcome.{bad_largest_lem, bad_above}
use Rattle.division.proofs.bad_largest.Goals as goal

pub returns-then-largest-lt-LEAST_LARGEST : goal.returns-then-largest-lt-LEAST_LARGEST
returns-then-largest-lt-LEAST_LARGEST c = sym (bad_largest_lem _ _ (inl c.if-largest-lt-LEAST_LARGEST.true))

pub returns-then-largest-threshold : goal.returns-then-largest-threshold
returns-then-largest-threshold c = sym (bad_largest_lem _ _ (inr (inl c.if-largest-threshold.true)))

pub returns : goal.returns
returns c = bad_above _ _ c.if-largest-lt-LEAST_LARGEST.false c.if-largest-threshold.false
