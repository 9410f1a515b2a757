-- `cif::boxes::line` meets its contract. Assumes nothing.
use borrow.Author.Tests.{not-true, not-false}
use Rattle.cif.proofs.Boxing.{line_other, line-none, line-half, line_open, line-found}
use Rattle.cif.proofs.boxes.line.Goals as goal

pub returns-then-not-stands : goal.returns-then-not-stands
returns-then-not-stands c = line_other c.args.text.now c.args.at (c.stands.ensures.no (not-true _ c.if-not-stands.true-raw))

pub returns-in_err-sides : goal.returns-in_err-sides
returns-in_err-sides c = rw c.from_residual.ensures (line-none c.args.text.now c.args.at c.in_err-sides.ensures)

pub returns-in_err-centre : goal.returns-in_err-centre
returns-in_err-centre c = rw c.from_residual-in_err-centre.ensures (line-half c.args.text.now c.args.at _ _ _ c.in_ok-sides.ensures c.in_err-centre.ensures)

pub returns-then-not-stands-2 : goal.returns-then-not-stands-2
returns-then-not-stands-2 c =
    line_open c.args.text.now c.args.at _ _ _ c.in_ok-sides.ensures _ _ _ c.in_ok-centre.ensures (c.stands-2.ensures.no (not-true _ c.if-not-stands-2.true-raw))

pub returns : goal.returns
returns c =
    line-found c.args.text.now c.args.at _ _ _ c.in_ok-sides.ensures _ _ _ c.in_ok-centre.ensures (c.stands.ensures.yes (not-false _ c.if-not-stands.false-raw))
    (c.stands-2.ensures.yes (not-false _ c.if-not-stands-2.false-raw))
