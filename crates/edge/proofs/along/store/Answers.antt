-- `edge::along::store` meets its contract. Assumes nothing.
use native.Mathlib.Omega.{arith}
use lib.ListN.{length-set}
use mathlib.Core.Path.{◌∙◌}
use Rattle.edge.proofs.Writing.{stored-four, or_none}
use borrow.Author.Rules.{rules}
use Rattle.edge.proofs.along.store.Goals as goal

pub bounds-runs-i-2 : goal.bounds-runs-i-2
bounds-runs-i-2 c = simp length-set (omega arith)

pub bounds-runs-i-3 : goal.bounds-runs-i-3
bounds-runs-i-3 c = simp length-set (omega arith)

pub bounds-runs-i-4 : goal.bounds-runs-i-4
bounds-runs-i-4 c = simp length-set (omega arith)

pub returns : goal.returns
returns c =
    rw (c.from.ensures, c.from-2.ensures, c.from-3.ensures, c.number.ensures, c.unwrap_or.ensures ∙ or_none c.args.run.lands.shot)
    (stored-four _ _ _ _ _ _ (search rules))
