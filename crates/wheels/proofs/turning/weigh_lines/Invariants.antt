-- `wheels::turning::weigh_lines` meets its contract: the pinwheels whose lower arms meet below a line are weighed. Assumes nothing.
use Rattle.std.proofs.Common.{◌≤◌}
use Rattle.wheels.specs.Wheel.{Weighed, Among, OfLine}
use Rattle.wheels.proofs.turning.weigh_lines.Given as goal

abbrev pub invariant-loop-line : goal.invariant-loop-line
invariant-loop-line l = (l.first ≤ l.line) × ((l.line ≤ l.end) × Weighed l.s.count (Among l.first l.line (OfLine l.store l.s)) l.initial.side l.side)
