-- `figure::rings::any` meets its contract. The invariant: what is asked is told by the rings from this one on. Assumes nothing.
use mathlib.Core.Path.{refl, sym, ◌∙◌}
use native.Mathlib.Omega.{arith}
use borrow.Author.Rules.{rules}
use Rattle.figure.proofs.Walking.{Left}
use Rattle.figure.proofs.Walking as walk
use Rattle.figure.proofs.rings.any.Goals as goal

pub loop-length-init : goal.loop-length-init
loop-length-init m c = walk.left-start _ _ _ c.requires

pub overflow_mul-to : goal.overflow_mul-to
overflow_mul-to m c = let r = walk.left-room _ _ _ _ _ _ _ c.loop-length.invariant (search rules) c.from.ensures refl in omega (arith, r)

pub overflow_add-to : goal.overflow_add-to
overflow_add-to m c = let r = walk.left-room _ _ _ _ _ _ _ c.loop-length.invariant (search rules) c.from.ensures refl in omega (arith, r)

pub slice_bounds-holds-end : goal.slice_bounds-holds-end
slice_bounds-holds-end m c = let r = walk.left-room _ _ _ _ _ _ _ c.loop-length.invariant (search rules) c.from.ensures refl in search (rules, r.1)

pub holds-requires : goal.holds-requires
holds-requires m c = walk.left-some _ _ _ _ _ _ _ c.loop-length.invariant (search rules) c.from.ensures refl c.requires

pub returns-then-holds : goal.returns-then-holds
returns-then-holds m c =
    walk.left_hit _ _ _ _ _ _ _ c.loop-length.invariant (search rules) c.from.ensures refl
    (sym c.holds.ensures ∙ c.if-holds.true)

pub loop-length-preserved : goal.loop-length-preserved
loop-length-preserved m c = walk.left-more _ _ _ _ _ _ _ c.loop-length.invariant (search rules) c.from.ensures refl
    (sym c.holds.ensures ∙ c.if-holds.false)

pub returns : goal.returns
returns m c = walk.left_end _ _ _ _ _ c.loop-length.invariant (search rules)
