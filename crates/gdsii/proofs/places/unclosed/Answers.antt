-- `unclosed` meets its contract: the first point and the last, x and then y. Assumes nothing.
use mathlib.Core.Path.{refl}
use native.Mathlib.Omega.{arith}
use Rattle.gdsii.proofs.Points.{unclosed-same, unclosed-other}
use Rattle.gdsii.proofs.places.unclosed.Goals as goal

pub returns-then-same_x : goal.returns-then-same_x
returns-then-same_x c =
    unclosed-same _ _ _ _ (omega arith) refl _ _ _ _ c.place_at.ensures
    c.place_at-2.ensures c.place_at-3.ensures c.place_at-4.ensures c.if-same_x.true-raw

pub returns : goal.returns
returns c =
    unclosed-other _ _ _ _ (omega arith) refl _ _ _ _ c.place_at.ensures
    c.place_at-2.ensures c.place_at-3.ensures c.place_at-4.ensures c.if-same_x.false-raw
