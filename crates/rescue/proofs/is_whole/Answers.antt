-- `is_whole` asks for the outlines first, and for the bytes where none is lost. Assumes nothing.
use Rattle.rescue.proofs.Status.{whole-both, whole-not}
use Rattle.rescue.proofs.is_whole.Goals as goal

pub returns-then-lost-eq0 : goal.returns-then-lost-eq0
returns-then-lost-eq0 c = whole-both c.args.lost c.args.dropped c.if-lost-eq0.true

pub returns-else-lost-eq0 : goal.returns-else-lost-eq0
returns-else-lost-eq0 c = whole-not c.args.lost c.args.dropped c.if-lost-eq0.false
