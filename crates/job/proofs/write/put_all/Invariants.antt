-- `put_all` meets its contract: what is put and what is still to be put give what the whole gives. Assumes nothing.
use Prim.Native.Nat.{◌+◌}
use mathlib.Core.Path.{◌≡◌}
use lib.ListN.{length, drop}
use lib.Seq.{sets}
use Rattle.job.specs.Bytes.{coordinate_bytes}
use Rattle.job.proofs.write.put_all.Given as goal

abbrev pub invariant-loop-x : goal.invariant-loop-x
invariant-loop-x l = (length l.out ≡ length l.initial.out)
    × (l.at + length (coordinate_bytes (drop l.x-index l.corners)) ≡ l.from + length (coordinate_bytes l.corners))
    × (sets l.out l.at (coordinate_bytes (drop l.x-index l.corners)) ≡ sets l.initial.out l.from (coordinate_bytes l.corners))
