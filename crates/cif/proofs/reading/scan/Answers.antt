-- `cif::reading::scan` meets its contract. Assumes nothing.
use Rattle.cif.proofs.Words.{scanned_shots}
use Rattle.cif.proofs.reading.scan.Goals as goal

pub returns : goal.returns
returns c = scanned_shots c.args.text.now _ _ _ c.in_ok-first.ensures c.boxes-run.ensures _ c.in_ok-closing.ensures
