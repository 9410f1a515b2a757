-- `wheels::lanes::gather_lines` meets its contract: the other lines below x are weighed. Assumes nothing.
use Rattle.std.proofs.Common.{◌≡◌, ◌<◌, ◌≤◌, length}
use Rattle.wheels.specs.Wheel.{LeastRest}
use Rattle.wheels.proofs.lanes.gather_lines.Given as goal

abbrev pub invariant-loop-x : goal.invariant-loop-x
invariant-loop-x l = (l.arms.after < l.x) × ((l.x ≤ l.arms.before) × ((length l.best ≡ length l.initial.best) × LeastRest l.store l.s l.arms l.d l.lanes l.x l.initial.best l.best))
