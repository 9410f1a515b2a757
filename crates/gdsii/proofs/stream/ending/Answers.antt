-- `ending` meets its contract: ENDEL, and no byte after it. Assumes nothing.
use Rattle.number.proofs.Number.{passed}
use Rattle.gdsii.specs.Steps.{past_told}
use Rattle.gdsii.proofs.Records.{ending-first, ending_extra, ending-end}
use borrow.Author.Tests.{eq-eqb, ne_eqb}
use Rattle.gdsii.proofs.stream.ending.Goals as goal

pub returns-in_err-last : goal.returns-in_err-last
returns-in_err-last c = passed past_told c.from_residual.ensures.1 (ending-first _ _ c.in_err-last.ensures)

pub returns-then-last-element : goal.returns-then-last-element
returns-then-last-element c = ending-end _ _ c.in_ok-last.ensures (eq-eqb _ _ c.if-last-element.true)

pub returns : goal.returns
returns c = rw c.at.ensures (ending_extra _ _ c.in_ok-last.ensures (ne_eqb _ _ c.if-last-element.false))
