-- `edge::along::run_at` meets its contract. The invariant: from where the first steady part ends, all end up alike. Assumes nothing.
use Prim.Native.Nat.{◌-◌}
use Rattle.figure.specs.Figure.{figure}
use Rattle.shot.specs.Shot.{shots_in}
use Rattle.figure.specs.Inside.{inside_at}
use Rattle.edge.specs.Landing.{landing}
use Rattle.edge.specs.Steps.{shot_no, side_no, low_of}
use Rattle.edge.proofs.Laws.{Onward}
use Rattle.edge.proofs.along.run_at.Given as goal

abbrev pub invariant-loop-to : goal.invariant-loop-to
invariant-loop-to l = Onward (landing l.axis (inside_at (figure l.corners l.lengths)) (shots_in l.shots) l.at) l.initial.to l.high l.to (shot_no l.first.shot) (side_no (low_of l.axis) l.first.side)

abbrev pub decreases-loop-to : goal.decreases-loop-to
decreases-loop-to l = l.high - l.to
