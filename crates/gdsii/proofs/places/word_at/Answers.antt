-- `word_at` meets its contract: two pairs of bytes. Assumes nothing.
use mathlib.Core.Path.{ap₂}
use Prim.Native.Nat.{◌+◌, ◌*◌}
use Rattle.gdsii.specs.Boundary.{word_at}
use Rattle.gdsii.proofs.places.word_at.Goals as goal

pub returns : goal.returns
unfolding word_at
returns c = ap₂ (λ h l. 65536 * h + l) c.pair_at-high.ensures.0 c.pair_at-low.ensures.0
