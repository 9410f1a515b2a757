-- `coordinates` meets its contract: what is left to read from here gives what the whole gives. Assumes nothing.
use Prim.Native.Nat.{◌-◌}
use mathlib.Core.Path.{◌≡◌}
use Rattle.number.specs.Reading.{past}
use Rattle.job.specs.Job.{coordinates}
use Rattle.job.proofs.read.coordinates.Given as goal

abbrev pub invariant-loop : goal.invariant-loop
invariant-loop l = past (coordinates l.job l.n l.initial.c.at) ≡ past (coordinates l.job (l.n - l.counter) l.c.at)
