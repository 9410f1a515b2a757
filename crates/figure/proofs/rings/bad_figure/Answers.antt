-- `figure::rings::bad_figure` meets its contract. The invariant: the lengths so far are good, and this is their sum. Assumes nothing.
use borrow.Author.Rules.{rules}
use Rattle.figure.proofs.Walking.{Added}
use Rattle.figure.proofs.Walking as walk
use Rattle.figure.proofs.rings.bad_figure.Goals as goal

pub returns-then-count-eq0 : goal.returns-then-count-eq0
returns-then-count-eq0 c = walk.bad_none _ _ c.if-count-eq0.true

pub returns-then-count-gt-MOST_RINGS : goal.returns-then-count-gt-MOST_RINGS
returns-then-count-gt-MOST_RINGS c = walk.bad_many _ _ c.if-count-eq0.false c.if-count-gt-MOST_RINGS.true

pub loop-length-init : goal.loop-length-init
loop-length-init c = walk.added-start _

pub returns-then-n-lt-LEAST_CORNERS : goal.returns-then-n-lt-LEAST_CORNERS
returns-then-n-lt-LEAST_CORNERS c = walk.added-few _ _ c.if-count-eq0.false c.if-count-gt-MOST_RINGS.false _ _ _ c.loop-length.invariant (search rules) c.from-n.ensures c.if-n-lt-LEAST_CORNERS.true

pub returns-then-n-gt-MOST_CORNERS : goal.returns-then-n-gt-MOST_CORNERS
returns-then-n-gt-MOST_CORNERS c =
    walk.added-many _ _ c.if-count-eq0.false c.if-count-gt-MOST_RINGS.false _ _ _ c.loop-length.invariant (search rules) c.from-n.ensures
    c.if-n-lt-LEAST_CORNERS.false
    c.if-n-gt-MOST_CORNERS.true

pub loop-length-preserved : goal.loop-length-preserved
loop-length-preserved c =
    walk.added_more _ _ _ _ c.loop-length.invariant (search rules) c.from-n.ensures
    c.if-n-lt-LEAST_CORNERS.false
    c.if-n-gt-MOST_CORNERS.false

pub returns-then-total-gt-MOST_CORNERS : goal.returns-then-total-gt-MOST_CORNERS
returns-then-total-gt-MOST_CORNERS c = walk.added-over _ _ c.if-count-eq0.false c.if-count-gt-MOST_RINGS.false _ _ c.loop-length.invariant (search rules) c.if-total-gt-MOST_CORNERS.true

pub returns-else-total-gt-MOST_CORNERS : goal.returns-else-total-gt-MOST_CORNERS
returns-else-total-gt-MOST_CORNERS c = walk.added-end _ _ c.if-count-eq0.false c.if-count-gt-MOST_RINGS.false _ _ c.loop-length.invariant (search rules) c.if-total-gt-MOST_CORNERS.false
