-- `outline::cells::shade` meets its contract. The marks of all walls, swept, are the cells inside. Assumes nothing.
use Rattle.outline.proofs.Marking.{lined_x, zeros_marks}
use Rattle.outline.proofs.Promise.{cells-shaded}
use Rattle.outline.proofs.cells.shade.Goals as goal

pub mark_walls-requires : goal.mark_walls-requires
mark_walls-requires c = record { lined = c.requires.lined; marks = zeros_marks _ c.requires.cells_value }

pub sweep-requires : goal.sweep-requires
sweep-requires c = record { marks = c.mark_walls.ensures.marks; le_lines = lined_x _ _ _ c.requires.lined }

pub returns : goal.returns
returns c = cells-shaded _ _ _ _ _ _ c.requires.lined c.requires.cells_value c.mark_walls.ensures c.sweep.ensures c.sweep.auto.cells
