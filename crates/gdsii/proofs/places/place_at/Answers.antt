-- `place_at` meets its contract: x in the first four bytes, y in the last. Assumes nothing.
use Rattle.gdsii.proofs.Points.{place-x, place-y}
use Rattle.gdsii.proofs.places.place_at.Goals as goal

pub returns-in-X : goal.returns-in-X
returns-in-X c = place-x _ _ _ _ _ c.in-X.is c.word_at.ensures c.raise.ensures

pub returns-in-Y : goal.returns-in-Y
returns-in-Y c = place-y _ _ _ _ _ c.in-Y.is c.word_at-in-Y.ensures c.raise-in-Y.ensures
