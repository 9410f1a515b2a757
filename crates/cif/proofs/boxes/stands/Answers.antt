-- `cif::boxes::stands` meets its contract. Assumes nothing.
use Rattle.cif.proofs.Words.{stands_told}
use Rattle.cif.proofs.boxes.stands.Goals as goal

pub returns : goal.returns
returns c = stands_told c.args.text.now c.args.at c.args.word.now _ c.starts_with.ensures.value
