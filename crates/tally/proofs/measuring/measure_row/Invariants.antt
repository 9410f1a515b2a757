-- `tally::measuring::measure_row` meets its contract: the cells of the row before the i-th are measured. Assumes nothing.
use Prim.Native.Nat.{◌+◌, ◌*◌}
use mathlib.Core.Path.{◌≡◌}
use lib.ListN.{length}
use Rattle.outline.specs.Grid.{Grid}
use Rattle.tally.specs.Units.{Row, UnitsTo}
use Rattle.tally.proofs.measuring.measure_row.Given as goal

abbrev pub invariant-loop-i : goal.invariant-loop-i
invariant-loop-i l = ((length l.unit ≡ 2560) × ((g : Grid) → Row g l.columns l.j l.xs l.ys l.cells → UnitsTo g (32 * l.j) l.initial.unit → UnitsTo g (32 * l.j + l.i) l.unit))
