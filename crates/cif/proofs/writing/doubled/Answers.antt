-- `cif::writing::doubled` meets its contract. Assumes nothing.
use native.Mathlib.Omega.{arith}
use Rattle.cif.proofs.Putting.{doubled_line}
use Rattle.cif.proofs.writing.doubled.Goals as goal

pub returns : goal.returns
returns c =
    doubled_line (c.from-left.ensures, omega arith) (c.from-right.ensures, omega arith) (c.from-bottom.ensures, omega arith) (c.from-top.ensures, omega arith)
