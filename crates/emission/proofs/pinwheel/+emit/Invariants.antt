-- The measure is the number of cells of the piece.
use Rattle.piece.specs.Piece.{cells}
use Rattle.piece.specs.Meant.{meant}
use Rattle.emission.proofs.pinwheel.+emit.Given as goal

abbrev pub decreases-emit : goal.decreases-emit
decreases-emit l = cells (meant l.p.piece)
