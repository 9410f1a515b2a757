use native.Mathlib.Omega.{arith}
use Rattle.join.proofs.Laws.{touches-apart, touches-above, touches-under, touches-low, touches-high}
use Rattle.join.proofs.touch.Goals as goal

pub returns-then-end-start : goal.returns-then-end-start
returns-then-end-start c = touches-apart _ _ _ _ _ _ (omega arith)

pub returns-then-b_high-a_low : goal.returns-then-b_high-a_low
returns-then-b_high-a_low c = touches-above _ _ _ _ _ _ (omega arith) (omega arith)

pub returns-then-a_high-b_low : goal.returns-then-a_high-b_low
returns-then-a_high-b_low c = touches-under _ _ _ _ _ _ (omega arith) (omega arith) (omega arith)

pub returns-then-a_low-b_low : goal.returns-then-a_low-b_low
returns-then-a_low-b_low c = touches-low _ _ _ _ _ _ (omega arith) (omega arith) (omega arith) (omega arith)

pub returns : goal.returns
returns c = touches-high _ _ _ _ _ _ (omega arith) (omega arith) (omega arith) (omega arith)
