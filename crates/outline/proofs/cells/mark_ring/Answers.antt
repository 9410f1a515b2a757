-- `outline::cells::mark_ring` meets its contract. The closing edge is a wall, or the edge after it. Assumes nothing.
use borrow.Author.Rules.{rules}
use Rattle.outline.proofs.Marking.{flat_walled, flat_ring, wall-upright, wall_walled, wall-ring}
use Rattle.outline.proofs.cells.mark_ring.Goals as goal

pub changes-requires : goal.changes-requires
changes-requires c = c.requires.ruled.corner-some

pub mark_from-requires : goal.mark_from-requires
mark_from-requires c = record { walled = flat_walled _ _ _ _ c.requires.ruled c.changes.ensures c.if-changes.true; ruled = c.requires.ruled; marks = c.requires.marks }

pub returns-then-changes : goal.returns-then-changes
returns-then-changes c = flat_ring _ _ _ _ c.requires.ruled c.changes.ensures _ _ c.if-changes.true c.mark_from.ensures

pub overflow_sub-corners : goal.overflow_sub-corners
overflow_sub-corners c = search (rules, c.requires.ruled.corner-some)

pub mark-requires : goal.mark-requires
mark-requires c = record { k_in_bounds = c.requires.ruled.corner-some; upright = wall-upright _ _ _ _ c.requires.ruled c.changes.ensures c.if-changes.false; ruled = c.requires.ruled; marks = c.requires.marks }

pub mark_from-requires-2 : goal.mark_from-requires-2
mark_from-requires-2 c = record { walled = wall_walled _ _ _ _ c.requires.ruled c.changes.ensures c.if-changes.false; ruled = c.requires.ruled; marks = c.mark.ensures.marks }

pub returns : goal.returns
returns c = wall-ring _ _ _ _ c.requires.ruled c.changes.ensures _ _ _ c.if-changes.false c.requires.marks c.mark.ensures c.mark_from-2.ensures
