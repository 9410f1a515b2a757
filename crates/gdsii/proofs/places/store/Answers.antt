-- `store` meets its contract: what is stored and what is still to come give the whole. Assumes nothing.
use mathlib.Core.Path.{refl}
use native.Mathlib.Omega.{arith}
use Rattle.gdsii.proofs.Storing.{storing_start, storing_same, storing_near, storing_more, storing_done}
use Rattle.gdsii.proofs.places.store.Goals as goal

pub loop-i-init : goal.loop-i-init
loop-i-init c =
    storing_same _ _ _ _ _ _ _ (storing_start _ _ _ _ c.args.run c.requires.fit c.lowest-low_x.ensures c.lowest-low_y.ensures c.requires.count_in_bounds)
    (omega arith) (omega arith) (omega arith)

pub overflow_sub-x : goal.overflow_sub-x
overflow_sub-x c =
    let n = storing_near _ _ _ _ _ _ _ _ _ _ c.loop-i.invariant (omega arith) in
    omega (arith, c.place_at.ensures, n.0.0)

pub overflow_sub-y : goal.overflow_sub-y
overflow_sub-y c =
    let n = storing_near _ _ _ _ _ _ _ _ _ _ c.loop-i.invariant (omega arith) in
    omega (arith, c.place_at-in-loop-i.ensures, n.1.0)

pub overflow_cast-list : goal.overflow_cast-list
overflow_cast-list c =
    let n = storing_near _ _ _ _ _ _ _ _ _ _ c.loop-i.invariant (omega arith) in
    omega (arith, c.place_at.ensures, n.0.1)

pub overflow_cast-list-in-loop-i : goal.overflow_cast-list-in-loop-i
overflow_cast-list-in-loop-i c =
    let n = storing_near _ _ _ _ _ _ _ _ _ _ c.loop-i.invariant (omega arith) in
    omega (arith, c.place_at-in-loop-i.ensures, n.1.1)

pub loop-i-preserved : goal.loop-i-preserved
loop-i-preserved c =
    storing_same _ _ _ _ _ _ _ (storing_more _ _ _ _ _ _ _ _ _ _ c.loop-i.invariant (omega arith) _ _ c.place_at.ensures c.place_at-in-loop-i.ensures)
    (omega arith) (omega arith) (omega arith)

pub returns : goal.returns
returns c =
    storing_done _ _ _ _ _ _ _ _ _ _ c.loop-i.invariant c.args.run refl refl (omega arith) c.requires.fit
    c.lowest-low_x.ensures c.lowest-low_y.ensures
