-- `wheels::keep_by` meets its contract: by straight cuts nothing is kept. Assumes nothing.
use Rattle.std.proofs.Common.{sym, refl, ◌∙◌}
use Rattle.piece.proofs.Cuts.{straight-only}
use Rattle.wheels.proofs.keep_by.Goals as goal

pub keep-requires : goal.keep-requires
keep-requires c = c.requires c.in-Pinwheel.is

pub returns-in-Straight : goal.returns-in-Straight
returns-in-Straight c = record { long = refl; pinwheel = λ q. absurd (straight-only (sym c.in-Straight.is ∙ q)) }

pub returns-in-Pinwheel : goal.returns-in-Pinwheel
returns-in-Pinwheel c = record { long = c.keep.ensures.long; pinwheel = λ q. c.keep.ensures }
