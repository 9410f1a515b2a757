-- `outline::cells::mark` meets its contract. A wall turns over the cells that it covers. Assumes nothing.
use Rattle.outline.proofs.Marking.{upright-before, ruled-listed, ruled-top, marked_bits, marked_wall}
use Rattle.outline.proofs.cells.mark.Goals as goal

pub along-start-requires : goal.along-start-requires
along-start-requires c = upright-before _ _ _ c.requires.k_in_bounds c.requires.upright

pub line_of-line-requires : goal.line_of-line-requires
line_of-line-requires c = ruled-listed _ _ _ _ _ c.requires.k_in_bounds c.requires.ruled c.along.ensures

pub turn_over-requires : goal.turn_over-requires
turn_over-requires c = record { bits = marked_bits _ _ _ _ _ _ _ c.requires.k_in_bounds c.requires.ruled c.requires.marks c.along.ensures c.line_of-line.ensures; listed = ruled-top _ _ _ _ _ _ _ _ (upright-before _ _ _ c.requires.k_in_bounds c.requires.upright) c.requires.k_in_bounds c.requires.ruled c.along-start.ensures c.along-end.ensures c.max.ensures }

pub returns : goal.returns
returns c =
    marked_wall _ _ _ _ _ _ _ c.requires.k_in_bounds c.requires.ruled c.requires.marks c.along.ensures c.line_of-line.ensures
    _ _ _ _ _ _
    c.requires.upright
    c.along-start.ensures
    c.along-end.ensures
    c.min.ensures
    c.max.ensures
    c.turn_over.ensures
    c.turn_over.auto.cells
