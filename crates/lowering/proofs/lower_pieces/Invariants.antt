-- `lowering::lower_pieces` meets its contract. The loop's invariant: the pieces that begin at b and end below d are lowered. Assumes nothing.
use Prim.Native.Nat.{◌+◌, ◌≤◌}
use Rattle.outline.specs.Grid.{Grid}
use Rattle.rule.specs.declared.Rule.{Rule}
use Rattle.table.specs.Entry.{entry_count}
use Rattle.table.specs.Fill.{Beyond}
use Rattle.lowering.specs.Lowering.{Standing}
use Rattle.lowering.proofs.lower_pieces.Given as goal

abbrev pub invariant-loop-d : goal.invariant-loop-d
invariant-loop-d l = (l.low + 3 ≤ l.d)
    × (l.d ≤ l.rows + 1)
    × ((g : Grid) (r : Rule) → Standing g r l.initial.table l.cells l.best l.plan l.a.0 l.c.0 l.b.0 (l.b.0 + 3) → Standing g r l.table l.cells l.best l.plan l.a.0 l.c.0 l.b.0 l.d)
    × Beyond (entry_count l.plan.columns l.plan.rows) l.initial.table l.table
