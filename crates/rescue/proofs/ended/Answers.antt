-- `ended` gives 2 where a write failed, and else what was lost. Assumes nothing.
use mathlib.Core.Logic.{inl, inr}
use mathlib.Core.Path.{ap}
use Rattle.terminal.specs.Status.{status_no}
use borrow.Author.Rules.{rules}
use Rattle.rescue.proofs.ended.Goals as goal

pub returns-then-not-finish : goal.returns-then-not-finish
returns-then-not-finish c = inl (ap status_no c.complain.ensures)

pub returns-then-whole : goal.returns-then-whole
returns-then-whole c = inr (search rules)

pub returns : goal.returns
returns c = inr (search rules)
