-- `lowering::lower_weighed` meets its contract. The loop's invariant: the pieces that begin at b or above are lowered. Assumes nothing.
use Prim.Native.Nat.{◌+◌, ◌-◌, ◌≤◌}
use Rattle.outline.specs.Grid.{Grid}
use Rattle.rule.specs.declared.Rule.{Rule}
use Rattle.table.specs.Entry.{entry_count}
use Rattle.table.specs.Fill.{Beyond}
use Rattle.lowering.specs.Lowering.{Standing}
use Rattle.lowering.proofs.lower_weighed.Given as goal

abbrev pub invariant-loop-b : goal.invariant-loop-b
invariant-loop-b l = (l.b ≤ l.rows - 2)
    × ((g : Grid) (r : Rule) → Standing g r l.initial.table l.cells l.best l.plan l.a.0 l.c.0 l.plan.rows (l.plan.rows + 1)
    → Standing g r l.table l.cells l.best l.plan l.a.0 l.c.0 l.b (l.plan.rows + 1))
    × Beyond (entry_count l.plan.columns l.plan.rows) l.initial.table l.table
