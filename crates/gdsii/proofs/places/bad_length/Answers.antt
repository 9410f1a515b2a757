-- `bad_length` meets its contract: one test after the other. Assumes nothing.
use mathlib.Core.Path.{◌∙◌}
use borrow.Author.Tests.{lt-ltb}
use Rattle.gdsii.proofs.Points.{few_bad, some_bad}
use Rattle.gdsii.proofs.places.bad_length.Goals as goal

pub returns-then-corners-lt-LEAST_CORNERS : goal.returns-then-corners-lt-LEAST_CORNERS
returns-then-corners-lt-LEAST_CORNERS c = lt-ltb _ _ c.if-corners-lt-LEAST_CORNERS.true ∙ few_bad _ c.if-corners-lt-LEAST_CORNERS.true

pub returns-else-corners-lt-LEAST_CORNERS : goal.returns-else-corners-lt-LEAST_CORNERS
returns-else-corners-lt-LEAST_CORNERS c = some_bad _ c.if-corners-lt-LEAST_CORNERS.false
