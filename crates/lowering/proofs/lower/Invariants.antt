-- `lowering::lower` meets its contract. The loop's invariant: the strips that begin at a or above are lowered. Assumes nothing.
use Prim.Native.Nat.{◌+◌, ◌-◌, ◌≤◌}
use Rattle.outline.specs.Grid.{Grid}
use Rattle.rule.specs.declared.Rule.{Rule}
use Rattle.piece.specs.declared.Mode.TheVariants.{Straight}
use Rattle.table.specs.Entry.{entry_count}
use Rattle.table.specs.Fill.{Beyond}
use Rattle.verdict.specs.Memory.{Costed}
use Rattle.lowering.specs.Lowering.{Lowering}
use Rattle.lowering.proofs.lower.Given as goal

abbrev pub invariant-loop-a : goal.invariant-loop-a
invariant-loop-a l = (l.a ≤ l.columns - 2)
    × ((g : Grid) (r : Rule) → Costed Straight g r l.initial.table l.cells l.plan → Lowering g r l.table l.cells l.plan l.a (l.plan.columns + 1))
    × Beyond (entry_count l.plan.columns l.plan.rows) l.initial.table l.table
