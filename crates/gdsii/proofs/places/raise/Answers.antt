-- `raise` meets its contract: below 2^31 and from there on. Assumes nothing.
use native.Mathlib.Omega.{arith}
use Rattle.gdsii.proofs.Points.{raise-low, raise-high}
use Rattle.gdsii.proofs.places.raise.Goals as goal

pub returns-then-word-lt-HALF : goal.returns-then-word-lt-HALF
returns-then-word-lt-HALF c = raise-low _ (omega arith)

pub returns : goal.returns
returns c = raise-high _ (omega arith)
