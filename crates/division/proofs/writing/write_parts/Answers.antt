-- `division::writing::write_parts` meets its contract. The invariant: the rows are written as far as row i. Assumes nothing.
use Rattle.division.proofs.Loops.{stack_start, stack_bottom, stack_top, stack_room, stack_next, stack_end}
use Rattle.division.proofs.writing.write_parts.Goals as goal

pub loop-i-init : goal.loop-i-init
loop-i-init c = stack_start _ _ _ _

pub edge_at-bottom-requires : goal.edge_at-bottom-requires
edge_at-bottom-requires c = stack_bottom _ _ _ _ c.requires _ _ _ c.loop-i.invariant c.loop-i-test.true

pub edge_at-top-requires : goal.edge_at-top-requires
edge_at-top-requires c = stack_top _ _ _ _ c.requires _ _ _ c.loop-i.invariant c.loop-i-test.true

pub write_row-next-requires : goal.write_row-next-requires
write_row-next-requires c = stack_room _ _ _ _ c.requires _ _ _ c.loop-i.invariant c.loop-i-test.true

pub loop-i-preserved : goal.loop-i-preserved
loop-i-preserved c = stack_next _ _ _ _ c.requires _ _ _ c.loop-i.invariant c.loop-i-test.true _ _ c.edge_at-bottom.ensures c.edge_at-top.ensures _ _ c.write_row-next.ensures

pub returns : goal.returns
returns c = stack_end _ _ _ _ c.requires _ _ _ c.loop-i.invariant c.loop-i-test.false
