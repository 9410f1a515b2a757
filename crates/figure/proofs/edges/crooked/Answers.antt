-- `figure::edges::crooked` meets its contract. The invariant: the edges passed change x and y by turns. Assumes nothing.
use borrow.Author.Rules.{rules}
use Rattle.figure.proofs.Crooked.{square-start, square-more, square-end, crooked-edge, crooked-turn}
use Rattle.figure.proofs.edges.crooked.Goals as goal

pub loop-turn-init : goal.loop-turn-init
loop-turn-init c = square-start _ _ c.changes-across.ensures

pub returns-then-x-y : goal.returns-then-x-y
returns-then-x-y c = crooked-edge _ _ (search rules) _ _ c.changes-x.ensures c.changes-y.ensures c.if-x-y.true

pub returns-then-x-across : goal.returns-then-x-across
returns-then-x-across c = crooked-turn _ _ (search rules) _ _ c.changes-x.ensures c.changes-y.ensures _ c.loop-turn.invariant c.if-x-y.false c.if-x-across.true

pub loop-turn-preserved : goal.loop-turn-preserved
loop-turn-preserved c = square-more _ _ (search rules) _ _ c.changes-x.ensures c.changes-y.ensures _ c.loop-turn.invariant c.if-x-y.false c.if-x-across.false

pub returns : goal.returns
returns c = square-end _ _ _ c.loop-turn.invariant c.loop-turn-test.false
