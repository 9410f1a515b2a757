-- `wheels::weigh_by` meets its contract: by straight cuts nothing is weighed. Assumes nothing.
use Rattle.std.proofs.Common.{sym, refl, ◌∙◌}
use Rattle.piece.proofs.Cuts.{straight-only}
use Rattle.wheels.proofs.weigh_by.Goals as goal

pub weigh_wheels-requires : goal.weigh_wheels-requires
weigh_wheels-requires c = record { ground = (c.requires c.in-Pinwheel.is).0; all_fit = (c.requires c.in-Pinwheel.is).1 }

pub returns-in-Straight : goal.returns-in-Straight
returns-in-Straight c = record { long = refl; straight = λ q. refl; pinwheel = λ q. absurd (straight-only (sym c.in-Straight.is ∙ q)) }

pub returns-in-Pinwheel : goal.returns-in-Pinwheel
returns-in-Pinwheel c = record { long = c.weigh_wheels.ensures.long; straight = λ q. absurd (straight-only (sym q ∙ c.in-Pinwheel.is)); pinwheel = λ q. c.weigh_wheels.ensures }
