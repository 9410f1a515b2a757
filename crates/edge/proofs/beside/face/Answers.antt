-- `edge::beside::face` meets its contract. Assumes nothing.
use Rattle.edge.specs.Steps.{side_no}
use Rattle.edge.proofs.Laws.{face_both, face_low, face_high, face_none}
use Rattle.edge.proofs.beside.face.Goals as goal

pub returns-then-beneath : goal.returns-then-beneath
unfolding side_no
returns-then-beneath c n = face_both _ _ n c.if-beyond.true c.if-beneath.true

pub returns-then-beyond : goal.returns-then-beyond
unfolding side_no
returns-then-beyond c n = face_low _ _ n c.if-beyond.true c.if-beneath.false

pub returns-then-beneath-2 : goal.returns-then-beneath-2
unfolding side_no
returns-then-beneath-2 c n = face_high _ _ n c.if-beyond.false c.if-beneath-2.true

pub returns : goal.returns
unfolding side_no
returns c n = face_none _ _ n c.if-beyond.false c.if-beneath-2.false
