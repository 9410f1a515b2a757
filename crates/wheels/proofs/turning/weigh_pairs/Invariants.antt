-- `wheels::turning::weigh_pairs` meets its contract: the pinwheels of both turns below the line m are weighed. Assumes nothing.
use Rattle.std.proofs.Common.{◌+◌, ◌<◌, ◌≤◌}
use Rattle.wheels.specs.Wheel.{Weighed, Among, BothTurns}
use Rattle.wheels.proofs.turning.weigh_pairs.Given as goal

abbrev pub invariant-loop-m : goal.invariant-loop-m
invariant-loop-m l = (l.k < l.m) × ((l.m ≤ l.s.rows) × Weighed l.s.count (Among (l.k + 1) l.m (BothTurns l.store l.s l.line l.k)) l.initial.side l.side)
