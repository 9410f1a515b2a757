-- `fracture::delivery::frame_of` meets its contract. Assumes nothing.
use mathlib.Core.Path.{refl}
use native.Mathlib.Omega.{arith}
use Rattle.fracture.proofs.Delivered.{frame-few, frame-known}
use Rattle.fracture.proofs.delivery.frame_of.Goals as goal

pub overflow_mul-entry : goal.overflow_mul-entry
overflow_mul-entry c = omega (arith, frame-few _ c.requires)

pub overflow_add-entry : goal.overflow_add-entry
overflow_add-entry c = omega (arith, frame-few _ c.requires, c.requires.rows-most)

pub returns : goal.returns
returns c = (refl, frame-known _ c.requires)
