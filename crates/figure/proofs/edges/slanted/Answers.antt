-- `figure::edges::slanted` meets its contract. The invariant: no edge passed so far changes both coordinates. Assumes nothing.
use mathlib.Core.Path.{sym, ◌∙◌}
use borrow.Author.Count.{below_none, below_more}
use borrow.Author.Rules.{rules}
use Rattle.figure.proofs.Corners
use Rattle.figure.proofs.edges.slanted.Goals as goal

pub loop-end-init : goal.loop-end-init
loop-end-init c = below_none _

pub returns-then-both : goal.returns-then-both
returns-then-both c = Corners.slanted-at _ _ (search rules) c.both.ensures c.if-both.true

pub loop-end-preserved : goal.loop-end-preserved
loop-end-preserved c = below_more _ _ c.loop-end.invariant (sym c.both.ensures ∙ c.if-both.false)

pub returns : goal.returns
returns c = Corners.slanted-none _ (λ k h. c.loop-end.invariant k (search rules))
