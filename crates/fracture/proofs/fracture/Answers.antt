-- `fracture::fracture` meets its contract. Assumes nothing.
use mathlib.Core.Path.{◌≡◌, ◌∙◌}
use native.Mathlib.Omega.{arith}
use Rattle.piece.specs.declared.Mode.TheVariants.{Straight}
use Rattle.demands.specs.Promise.{asked}
use Rattle.fracture.specs.Told.{denied}
use Rattle.fracture.proofs.Settled.{told-rule, rule-range, rule-outcome}
use Rattle.fracture.proofs.fracture.Goals as goal

pub fracture_by-requires : goal.fracture_by-requires
fracture_by-requires c = rule-range _ _ c.in_ok-rule.ensures.settled

pub returns : goal.returns
returns c = record { settled = c.fracture_by.ensures.settled ∙ rule-outcome (asked Straight _ _ _ _ _ _) c.in_ok-rule.ensures.settled }

pub returns-in_err-rule : goal.returns-in_err-rule
returns-in_err-rule c =
    let handed : c.from_residual.result ≡ denied c.in_err-rule.field-0.0 0 = grind arith in
    record { settled = rw handed (told-rule (asked Straight _ _ _ _ _ _) c.in_err-rule.field-0.0 c.in_err-rule.ensures.settled) }
