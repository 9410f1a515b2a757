-- `cif::writing::put_word` meets its contract. Assumes nothing.
use mathlib.Core.Path.{refl}
use Rattle.cif.proofs.Putting.{word_put}
use Rattle.cif.proofs.writing.put_word.Goals as goal

pub returns : goal.returns
returns c = rw c.copy_from_slice.ensures.after (refl, word_put _ _ _ c.requires)
