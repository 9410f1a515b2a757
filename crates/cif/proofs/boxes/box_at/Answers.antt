-- `cif::boxes::box_at` meets its contract. Assumes nothing.
use Rattle.cif.proofs.Boxing.{box_missing, box-x, box-y, box-found}
use Rattle.cif.proofs.boxes.box_at.Goals as goal

pub returns-in_err-fields : goal.returns-in_err-fields
returns-in_err-fields c = rw c.from_residual.ensures (box_missing c.args.text.now c.args.at c.in_err-fields.ensures)

pub returns-in_err-across : goal.returns-in_err-across
returns-in_err-across c = rw c.from_residual-in_err-across.ensures (box-x c.args.text.now c.args.at _ _ _ _ _ c.in_ok-fields.ensures c.in_err-across.ensures)

pub returns-in_err-along : goal.returns-in_err-along
returns-in_err-along c = rw c.from_residual-in_err-along.ensures (box-y c.args.text.now c.args.at _ _ _ _ _ c.in_ok-fields.ensures c.in_err-along.ensures)

pub returns : goal.returns
returns c = box-found c.args.text.now c.args.at _ _ _ _ _ c.in_ok-fields.ensures _ _ _ _ c.in_ok-across.ensures c.in_ok-along.ensures
