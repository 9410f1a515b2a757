-- To believe: the piece that the code's lines stand for.
--
--   meant p   == the piece between the lines of the code's p: line numbers by value
use Rattle.piece.specs.declared.Piece as stored
use Rattle.piece.specs.Piece.{Piece, box}

abbrev pub meant : stored.Piece → Piece
meant p = box p.a.0 p.c.0 p.b.0 p.d.0
