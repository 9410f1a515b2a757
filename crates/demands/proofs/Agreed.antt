-- The rows of cuts weighed, computed. They come first, so that they refuse a wrong count before a law that only no longer fits it. Assumes nothing.
--
--   cut-rows       == the cuts of each row's grid are those that the row says
use mathlib.Core.Path.{◌≡◌, refl}
use Rattle.sum.specs.Sum.{All, over, join, sum_of}
use Rattle.figure.specs.Corners.{corners, coordinate, last, steps, around, any, edges, threes, last_but_one, turns, changes, odd}
use Rattle.figure.specs.Figure.{share}
use Rattle.figure.specs.Inside.{wall, walls, covers, count, within}
use Rattle.outline.specs.Lines.{insert, rising, lines, place}
use Rattle.outline.specs.Inside.{grid_of, grid}
use Rattle.piece.specs.Piece.{cells, cell_sum, kind_of, kind, inside_cells}
use Rattle.demands.specs.Cuts.{lines_within, weighed, line_pairs, weighed_cuts}
use Rattle.demands.specs.CutRows.{CutRow, cut_rows}

pub cut-rows : All (λ (row : CutRow). weighed_cuts (grid row.figure) ≡ row.cuts) cut_rows
unfolding weighed_cuts line_pairs weighed lines_within over cells cell_sum kind_of kind inside_cells grid grid_of corners coordinate last steps around any edges threes last_but_one turns changes odd share insert rising lines place wall walls covers count within join sum_of
cut-rows = (refl, (refl, (refl, (refl, (refl, (refl, tt))))))
