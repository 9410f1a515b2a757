-- `division::writing::write_all` meets its contract. The invariant: the shots are written as far as shot k. Assumes nothing.
use Rattle.division.proofs.Loops.{at_solid, fill_start, fill_room, fill_next, fill_end}
use Rattle.division.proofs.writing.write_all.Goals as goal

pub loop-k-init : goal.loop-k-init
loop-k-init c = fill_start _ _ _ _

pub sides_of-sides-requires : goal.sides_of-sides-requires
sides_of-sides-requires c = at_solid _ _ _ _ c.requires.0 c.loop-k-test.true

pub write_parts-next-requires : goal.write_parts-next-requires
write_parts-next-requires c = fill_room _ _ _ _ c.requires _ _ _ c.loop-k.invariant c.loop-k-test.true _ _ c.sides_of-sides.ensures

pub loop-k-preserved : goal.loop-k-preserved
loop-k-preserved c = fill_next _ _ _ _ c.requires _ _ _ c.loop-k.invariant c.loop-k-test.true _ _ c.sides_of-sides.ensures _ _ c.write_parts-next.ensures

pub returns : goal.returns
returns c = fill_end _ _ _ _ c.requires _ _ _ c.loop-k.invariant c.loop-k-test.false
