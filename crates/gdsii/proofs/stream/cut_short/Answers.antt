-- `cut_short` meets its contract: by the first four bytes, and by the length that they announce. Assumes nothing.
use native.Mathlib.Omega.{arith}
use Rattle.gdsii.proofs.Records.{short-few, short-whole}
use Rattle.gdsii.proofs.stream.cut_short.Goals as goal

pub returns-then-len-at : goal.returns-then-len-at
returns-then-len-at c = short-few _ _ (omega arith)

pub returns-then-left-lt4 : goal.returns-then-left-lt4
returns-then-left-lt4 c = short-few _ _ (omega arith)

pub returns : goal.returns
returns c = short-whole _ _ _ c.size_at.ensures (omega arith)
