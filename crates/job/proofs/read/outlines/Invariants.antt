-- `outlines` meets its contract: what is left to read from here gives what the whole gives. Assumes nothing.
use Prim.Native.Nat.{◌-◌}
use mathlib.Core.Path.{◌≡◌}
use Rattle.number.specs.Reading.{past}
use Rattle.job.specs.Job.{outlines}
use Rattle.job.proofs.read.outlines.Given as goal

abbrev pub invariant-loop : goal.invariant-loop
invariant-loop l = past (outlines l.job l.k l.initial.c.at) ≡ past (outlines l.job (l.k - l.counter) l.c.at)
