-- `pair` meets its contract: the high byte counts 256 times. Assumes nothing.
use Prim.Native.Nat.{◌+◌, ◌*◌}
use mathlib.Core.Path.{ap₂}
use native.Mathlib.Omega.{arith}
use Rattle.gdsii.proofs.stream.pair.Goals as goal

pub returns : goal.returns
returns c = (ap₂ (λ h l. 256 * h + l) c.from.ensures c.from-2.ensures, omega (arith, c.from.ensures, c.from-2.ensures))
