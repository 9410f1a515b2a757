-- `cif::writing::put_text` meets its contract. Assumes nothing.
use Rattle.cif.proofs.Putting.{text_put}
use Rattle.cif.proofs.writing.put_text.Goals as goal

pub returns : goal.returns
returns c = text_put c.args.list.now c.args.out.now _ _ _ _ _ c.put_word-first.ensures.0 c.put_word-first.ensures.1 c.put_boxes-last.ensures.value c.put_boxes-last.ensures.out_after c.put_word.ensures.1
