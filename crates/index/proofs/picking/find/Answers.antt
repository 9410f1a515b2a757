-- `find` meets its contract: each exit is a case of `found`. Assumes nothing.
use native.Mathlib.Omega.{arith}
use Rattle.index.proofs.Starts.{found-long, found-count, found-room, found_here}
use Rattle.index.proofs.picking.find.Goals as goal

pub returns-then-job-gt-MOST_BYTES : goal.returns-then-job-gt-MOST_BYTES
returns-then-job-gt-MOST_BYTES c = record { settled = rw c.from.ensures (found-long _ _ _ _ (omega arith)) }

pub returns-then-count-k : goal.returns-then-count-k
returns-then-count-k c = record { settled = rw c.from-then-count-k.ensures (found-count _ _ _ _ (omega arith) (omega arith)) }

pub returns-then-index-k : goal.returns-then-index-k
returns-then-index-k c =
    record { settled = rw c.from-then-index-k.ensures (found-room _ _ _ _ (omega arith) (omega arith) (omega arith)) }

pub returns : goal.returns
returns c = record { settled = found_here _ _ _ _ (omega arith) (omega arith) (omega arith) c.from-at.ensures c.locate.ensures }
