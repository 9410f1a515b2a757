-- `division::side::side_of` meets its contract. Assumes nothing.
use mathlib.Core.Path.{refl}
use native.Mathlib.Omega.{arith}
use Rattle.division.specs.Division.{part_count}
use Rattle.division.specs.Steps.{side_of}
use Rattle.division.proofs.Written.{edge-last}
use Rattle.division.proofs.side.side_of.Goals as goal

pub returns : goal.returns
unfolding side_of part_count
returns c = rw c.from-from.ensures (rw c.from.ensures (refl, omega (arith, edge-last c.args.largest c.args.low c.args.high c.requires.1.0 c.requires.0)))
