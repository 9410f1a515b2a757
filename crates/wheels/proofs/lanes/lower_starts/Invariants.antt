-- `wheels::lanes::lower_starts` meets its contract: the pieces that begin below b are lowered. Assumes nothing.
use Rattle.std.proofs.Common.{◌≡◌, ◌≤◌, length}
use Rattle.wheels.specs.Wheel.{Weighed, Among, StartAt}
use Rattle.wheels.proofs.lanes.lower_starts.Given as goal

abbrev pub invariant-loop-b : goal.invariant-loop-b
invariant-loop-b l = (l.b ≤ l.arms.low) × ((length l.sums ≡ 16) × Weighed l.s.count (Among 0 l.b (StartAt l.store l.s l.arms l.d l.best)) l.initial.side l.side)
