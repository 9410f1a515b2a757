-- `shallow::rows::ArraySums5Rows::grown` meets its contract. Assumes nothing.
use native.Mathlib.Omega.{arith}
use Rattle.shallow.proofs.rows.ArraySums5Rows.grown.Goals as goal

pub grown-requires-4-clause-small : goal.grown-requires-4-clause-small
grown-requires-4-clause-small c = (c.requires.small.0 3 (omega arith), c.requires.small.1)

pub grown-requires-5-clause-small : goal.grown-requires-5-clause-small
grown-requires-5-clause-small c = (c.requires.small.0 4 (omega arith), c.requires.small.1)
