use native.Mathlib.Omega.{arith}
use Rattle.join.proofs.Laws.{count-pair, count_none}
use Rattle.join.proofs.count.Goals as goal

pub returns-then-i-j : goal.returns-then-i-j
returns-then-i-j c = count-pair _ _ _ (omega arith)

pub returns-else-i-j : goal.returns-else-i-j
returns-else-i-j c = count_none _ _ _ (omega arith)
