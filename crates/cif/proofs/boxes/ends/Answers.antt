-- `cif::boxes::ends` meets its contract. Assumes nothing.
use Rattle.cif.proofs.Boxing.{between-even}
use native.Mathlib.Omega.{arith}
use Rattle.cif.proofs.boxes.ends.Goals as goal

pub returns-then-twice-ne0 : goal.returns-then-twice-ne0
returns-then-twice-ne0 c = λ low high b. omega (arith, between-even _ _ low high b)
