-- `division::writing::write_row` meets its contract. The invariant: the row is written as far as column j. Assumes nothing.
use native.Mathlib.Omega.{arith}
use Rattle.division.proofs.Loops.{row-start, row-left, row-right, row_room, row_next, row_kept, row-end}
use Rattle.division.proofs.writing.write_row.Goals as goal

pub loop-j-init : goal.loop-j-init
loop-j-init c = row-start _ _ _ _ _

pub edge_at-left-requires : goal.edge_at-left-requires
edge_at-left-requires c = row-left _ _ _ _ _ c.requires _ _ _ c.loop-j.invariant c.loop-j-test.true

pub edge_at-right-requires : goal.edge_at-right-requires
edge_at-right-requires c = row-right _ _ _ _ _ c.requires _ _ _ c.loop-j.invariant c.loop-j-test.true

pub write_part-requires : goal.write_part-requires
write_part-requires c = row_room _ _ _ _ _ c.requires _ _ _ c.loop-j.invariant c.loop-j-test.true

pub overflow_add-next : goal.overflow_add-next
overflow_add-next c =
    record {
      fits =
          omega (
            arith,
            row_room _ _ _ _ _ c.requires _ _ _ c.loop-j.invariant c.loop-j-test.true,
            row_kept _ _ _ _ _ c.requires _ _ _ c.loop-j.invariant,
            c.well_formed.0,
          );
    }

pub loop-j-preserved : goal.loop-j-preserved
loop-j-preserved c = row_next _ _ _ _ _ c.requires _ _ _ c.loop-j.invariant c.loop-j-test.true _ _ c.edge_at-left.ensures c.edge_at-right.ensures _ c.write_part.ensures

pub returns : goal.returns
returns c = row-end _ _ _ _ _ c.requires _ _ _ c.loop-j.invariant c.loop-j-test.false
