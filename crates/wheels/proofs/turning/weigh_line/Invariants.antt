-- `wheels::turning::weigh_line` meets its contract: the pinwheels whose inner parts begin below the line k are weighed. Assumes nothing.
use Rattle.std.proofs.Common.{◌<◌, ◌≤◌}
use Rattle.wheels.specs.Wheel.{Weighed, Among, FromTo}
use Rattle.wheels.proofs.turning.weigh_line.Given as goal

abbrev pub invariant-loop-k : goal.invariant-loop-k
invariant-loop-k l = (0 < l.k) × ((l.k ≤ l.s.rows) × Weighed l.s.count (Among 1 l.k (FromTo l.store l.s l.line)) l.initial.side l.side)
