-- `cif::reading::closing` meets its contract. Assumes nothing.
use native.Mathlib.Omega.{arith}
use Rattle.cif.proofs.Words.{closing_done}
use Rattle.cif.proofs.reading.closing.Goals as goal

pub returns : goal.returns
returns c = closing_done c.args.text.now c.args.at _ c.in_ok-call.ensures _ c.in_ok-end.ensures _ c.in_ok-last.ensures (omega arith)
