-- `widths::lanes::judge_lanes` meets its contract: the pieces in the lanes below l are settled. Assumes nothing.
use Prim.Native.Nat.{◌≤◌}
use Rattle.widths.specs.Lane.{Ruled}
use Rattle.widths.proofs.lanes.judge_lanes.Given as goal

abbrev pub invariant-loop-l : goal.invariant-loop-l
invariant-loop-l l = (l.l ≤ l.lanes) × Ruled l.rule l.height l.cells l.low l.high l.sums l.widths l.count l.flanks l.best l.at l.l l.initial.side l.side
