-- `lowering::lower_strips` meets its contract. The loop's invariant: the strips that begin at a and end below c are lowered. Assumes nothing.
use Prim.Native.Nat.{◌+◌, ◌≤◌}
use Rattle.outline.specs.Grid.{Grid}
use Rattle.rule.specs.declared.Rule.{Rule}
use Rattle.table.specs.Entry.{entry_count}
use Rattle.table.specs.Fill.{Beyond}
use Rattle.lowering.specs.Lowering.{Lowering}
use Rattle.lowering.proofs.lower_strips.Given as goal

abbrev pub invariant-loop-c : goal.invariant-loop-c
invariant-loop-c l = (l.low + 3 ≤ l.c)
    × (l.c ≤ l.columns + 1)
    × ((g : Grid) (r : Rule) → Lowering g r l.initial.table l.cells l.plan l.a.0 (l.a.0 + 3) → Lowering g r l.table l.cells l.plan l.a.0 l.c)
    × Beyond (entry_count l.plan.columns l.plan.rows) l.initial.table l.table
