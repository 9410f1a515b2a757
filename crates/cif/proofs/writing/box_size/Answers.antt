-- `cif::writing::box_size` meets its contract. Assumes nothing.
use Rattle.cif.proofs.Putting.{box-sized}
use Rattle.cif.proofs.writing.box_size.Goals as goal

pub size-length-requires : goal.size-length-requires
size-length-requires c = c.doubled-n.ensures.small.one

pub size-width-requires : goal.size-width-requires
size-width-requires c = c.doubled-n.ensures.small.two

pub size-x-requires : goal.size-x-requires
size-x-requires c = c.doubled-n.ensures.small.three

pub size-y-requires : goal.size-y-requires
size-y-requires c = c.doubled-n.ensures.small.four

pub returns : goal.returns
returns c = box-sized c.doubled-n.ensures c.size-length.ensures c.size-width.ensures c.size-x.ensures c.size-y.ensures
