-- `fracture::fracture_pinwheel` meets its contract. Assumes nothing.
use mathlib.Core.Path.{◌≡◌, ◌∙◌}
use native.Mathlib.Omega.{arith}
use Rattle.piece.specs.declared.Mode.TheVariants.{Pinwheel}
use Rattle.demands.specs.Promise.{asked}
use Rattle.fracture.proofs.Handed.{few-outcome}
use Rattle.fracture.specs.Told.{denied}
use Rattle.fracture.proofs.Settled.{told-rule, rule-range, rule-outcome}
use Rattle.fracture.proofs.fracture_pinwheel.Goals as goal

pub returns-then-corners-lt-FEW_NUMBERS : goal.returns-then-corners-lt-FEW_NUMBERS
returns-then-corners-lt-FEW_NUMBERS c = record { settled = c.fracture.ensures.settled ∙ few-outcome (asked Pinwheel _ _ _ _ _ _) (omega (arith, c.if-corners-lt-FEW_NUMBERS.true)) }

pub fracture_by-requires : goal.fracture_by-requires
fracture_by-requires c = rule-range _ _ c.in_ok-rule.ensures.settled

pub returns : goal.returns
returns c = record { settled = c.fracture_by.ensures.settled ∙ rule-outcome (asked Pinwheel _ _ _ _ _ _) c.in_ok-rule.ensures.settled }

pub returns-in_err-rule : goal.returns-in_err-rule
returns-in_err-rule c =
    let handed : c.from_residual.result ≡ denied c.in_err-rule.field-0.0 0 = grind arith in
    record { settled = rw handed (told-rule (asked Pinwheel _ _ _ _ _ _) c.in_err-rule.field-0.0 c.in_err-rule.ensures.settled) }
