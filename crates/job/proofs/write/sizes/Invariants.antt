-- `sizes` meets its contract: the bytes counted and those of the numbers still to come are all. Assumes nothing.
use Prim.Native.Nat.{◌+◌, ◌*◌, ◌≤◌}
use mathlib.Core.Path.{◌≡◌}
use lib.ListN.{length, drop}
use Rattle.job.specs.Bytes.{coordinate_bytes}
use Rattle.job.proofs.write.sizes.Given as goal

abbrev pub invariant-loop-x : goal.invariant-loop-x
invariant-loop-x l = (l.total + length (coordinate_bytes (drop l.x-index l.numbers)) ≡ length (coordinate_bytes l.numbers))
    × (l.total ≤ 3 * l.x-index)
