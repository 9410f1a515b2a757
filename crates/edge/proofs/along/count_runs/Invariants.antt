-- `edge::along::count_runs` meets its contract. The invariant: those counted and those from here on are all of them. Assumes nothing.
use Prim.Native.Nat.{◌+◌, ◌-◌, ◌≤◌}
use mathlib.Core.Path.{◌≡◌}
use Rattle.figure.specs.Figure.{figure}
use Rattle.shot.specs.Shot.{shots_in}
use Rattle.figure.specs.Inside.{inside_at}
use Rattle.edge.specs.Landing.{landing}
use Rattle.edge.specs.Steps.{run_count}
use Rattle.edge.proofs.along.count_runs.Given as goal

abbrev pub invariant-loop-k : goal.invariant-loop-k
invariant-loop-k l = (l.count + run_count (landing l.axis (inside_at (figure l.corners l.lengths)) (shots_in l.shots) l.at) l.k l.high ≡ run_count (landing l.axis (inside_at (figure l.corners l.lengths)) (shots_in l.shots) l.at) l.initial.k l.high) × (l.count ≤ l.k) × (l.k ≤ l.high)

abbrev pub decreases-loop-k : goal.decreases-loop-k
decreases-loop-k l = l.high - l.k
