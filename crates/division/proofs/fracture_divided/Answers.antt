-- `division::fracture_divided` meets its contract. Assumes nothing.
use Rattle.std.specs.Prelude.{Err}
use mathlib.Core.Path.{◌≡◌, sym, ◌∙◌}
use native.Mathlib.Omega.{arith}
use Rattle.refusal.specs.declared.Refusal.TheVariants.{Largest}
use Rattle.rule.proofs.Rules.{rule-made, range_true}
use Rattle.fracture.specs.Told.{denied}
use Rattle.demands.specs.Promise.{asked}
use Rattle.division.proofs.Settled.{told-rule, told-largest}
use Rattle.division.proofs.fracture_divided.Goals as goal

pub bad_largest-requires : goal.bad_largest-requires
bad_largest-requires c = (range_true _ _ (rule-made _ _ c.in_ok-_rule.ensures.settled).0).0

pub returns-then-bad_largest : goal.returns-then-bad_largest
returns-then-bad_largest c =
    let made : Err c.into.result ≡ denied Largest 0 = grind arith in
    record {
      settled =
          rw made
          (told-largest (asked _ _ _ _ _ _ _) _ (rule-made _ _ c.in_ok-_rule.ensures.settled).0
          (sym c.bad_largest.ensures ∙ c.if-bad_largest.true));
    }

pub divide-requires : goal.divide-requires
divide-requires c = ((rule-made _ _ c.in_ok-_rule.ensures.settled).0, sym c.bad_largest.ensures ∙ c.if-bad_largest.false)

pub returns-in_err-_rule : goal.returns-in_err-_rule
returns-in_err-_rule c =
    let handed : c.from_residual.result ≡ denied c.in_err-_rule.field-0.0 0 = grind arith in
    record { settled = rw handed (told-rule (asked _ _ _ _ _ _ _) _ c.in_err-_rule.field-0.0 c.in_err-_rule.ensures.settled) }
