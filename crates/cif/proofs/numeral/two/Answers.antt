-- `cif::numeral::two` meets its contract. Assumes nothing.
use Rattle.cif.proofs.Numerals.{two_none, two-one, two-found}
use Rattle.cif.proofs.numeral.two.Goals as goal

pub returns-in_err-first : goal.returns-in_err-first
returns-in_err-first c = rw c.from_residual.ensures (two_none c.args.text.now c.args.at c.in_err-first.ensures)

pub returns-in_err-second : goal.returns-in_err-second
returns-in_err-second c = rw c.from_residual-in_err-second.ensures (two-one c.args.text.now c.args.at _ _ c.in_ok-first.ensures c.in_err-second.ensures)

pub returns : goal.returns
returns c = two-found c.args.text.now c.args.at _ _ c.in_ok-first.ensures _ _ c.in_ok-second.ensures
