-- `emission::emit_mixed` meets its contract. The measure is the number of cells of the piece. The loop's invariant: the shots written and those
-- of the rest are the piece's, or all are written. Its measure is the number of cells of the rest. Assumes nothing.
use Prim.Native.Nat.{suc}
use mathlib.Core.Bool.{cond}
use Rattle.piece.specs.Piece.{cells}
use Rattle.piece.specs.Meant.{meant}
use Rattle.emission.proofs.Emitted.{Going}
use Rattle.emission.proofs.+emit_mixed.Given as goal

abbrev pub invariant-loop-more : goal.invariant-loop-more
invariant-loop-more l = Going l.costs l.cells l.xs l.ys l.plan l.initial.list l.at l.initial.rest l.list l.next l.rest l.more

abbrev pub decreases-loop-more : goal.decreases-loop-more
decreases-loop-more l = cond l.more (suc (cells (meant l.rest.piece))) 0

abbrev pub decreases-emit_mixed : goal.decreases-emit_mixed
decreases-emit_mixed l = cells (meant l.p.piece)
