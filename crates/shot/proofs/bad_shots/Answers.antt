-- `shot::bad_shots` meets its contract. The invariant: what 21 says is told by the shots from this place on. Assumes nothing.
use native.Mathlib.Omega.{arith}
use Rattle.shot.proofs.Bad.{passed_start, passed-empty, passed-more, passed-end, uneven_bad}
use Rattle.shot.proofs.bad_shots.Goals as goal

pub returns-then-list-ne0 : goal.returns-then-list-ne0
returns-then-list-ne0 c = uneven_bad _ (λ e. omega arith)

pub loop-at-init : goal.loop-at-init
loop-at-init c = passed_start _ (omega arith)

pub returns-then-empty : goal.returns-then-empty
returns-then-empty c = passed-empty _ _ c.loop-at.invariant (omega arith) c.empty.ensures c.if-empty.true

pub loop-at-preserved : goal.loop-at-preserved
loop-at-preserved c = passed-more _ _ c.loop-at.invariant (omega arith) c.empty.ensures c.if-empty.false

pub returns-else-empty : goal.returns-else-empty
returns-else-empty c =
    passed-end _ _ (passed-more _ _ c.loop-at.invariant (omega arith) c.empty.ensures c.if-empty.false) (omega arith)

pub returns-else-list-ne0 : goal.returns-else-list-ne0
returns-else-list-ne0 c = passed-end _ _ c.loop-at.invariant (omega arith)
