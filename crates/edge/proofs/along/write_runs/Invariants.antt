-- `edge::along::write_runs` meets its contract. The invariant: what is written and what is still to come give the whole. Assumes nothing.
use Prim.Native.Nat.{◌-◌, ◌≤◌}
use mathlib.Core.Path.{◌≡◌}
use lib.ListN.{length}
use Rattle.figure.specs.Figure.{figure}
use Rattle.shot.specs.Shot.{shots_in}
use Rattle.figure.specs.Inside.{inside_at}
use Rattle.edge.specs.Landing.{landing}
use Rattle.edge.specs.Steps.{runs_written}
use Rattle.edge.proofs.Writing.{Ahead}
use Rattle.edge.proofs.along.write_runs.Given as goal

abbrev pub invariant-loop-k : goal.invariant-loop-k
invariant-loop-k l = Ahead (landing l.axis (inside_at (figure l.corners l.lengths)) (shots_in l.shots) l.at) l.high l.i l.k l.runs (runs_written (landing l.axis (inside_at (figure l.corners l.lengths)) (shots_in l.shots) l.at) l.initial.k l.high l.initial.runs) × (length l.runs ≡ length l.initial.runs) × (l.k ≤ l.high)

abbrev pub decreases-loop-k : goal.decreases-loop-k
decreases-loop-k l = l.high - l.k
