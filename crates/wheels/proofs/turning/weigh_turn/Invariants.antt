-- `wheels::turning::weigh_turn` meets its contract: the pinwheels that end below d are weighed. Assumes nothing.
use Rattle.std.proofs.Common.{◌+◌, ◌<◌, ◌≤◌}
use Rattle.wheels.specs.Wheel.{Weighed, Among, EndsAt}
use Rattle.wheels.proofs.turning.weigh_turn.Given as goal

abbrev pub invariant-loop-d : goal.invariant-loop-d
invariant-loop-d l = (l.arms.high < l.d) × ((l.d ≤ l.s.rows + 1) × Weighed l.s.count (Among (l.arms.high + 1) l.d (EndsAt l.store l.s l.arms)) l.initial.side l.side)
