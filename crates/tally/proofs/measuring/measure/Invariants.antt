-- `tally::measuring::measure` meets its contract: the rows below j are measured. Assumes nothing.
use Prim.Native.Nat.{◌*◌}
use Rattle.outline.specs.Grid.{stored}
use Rattle.tally.specs.Units.{UnitsTo}
use Rattle.tally.proofs.measuring.measure.Given as goal

abbrev pub invariant-loop-j : goal.invariant-loop-j
invariant-loop-j l = UnitsTo (stored l.columns l.rows l.xs l.ys l.cells) (32 * l.j) l.unit
