-- `division::count_parts` meets its contract. The invariant: the parts are counted as far as shot k. Assumes nothing.
use Rattle.division.proofs.Loops.{Counting}
use Rattle.division.proofs.count_parts.Given as goal

abbrev pub invariant-loop-k : goal.invariant-loop-k
invariant-loop-k l = Counting l.shots l.n l.largest l.parts l.k
