-- `Rule::new` meets its contract: each exit is a case of `rule_told`. Assumes nothing.
use native.Mathlib.Omega.{arith}
use Rattle.rule.proofs.Rules.{rule-given, rule-over-threshold, rule-over-weight}
use Rattle.rule.proofs.Rule.new.Goals as goal

pub returns-then-threshold-gt-MAX_THRESHOLD : goal.returns-then-threshold-gt-MAX_THRESHOLD
returns-then-threshold-gt-MAX_THRESHOLD c = record { settled = rule-over-threshold _ _ (omega arith) }

pub returns-then-weight-gt-MAX_WEIGHT : goal.returns-then-weight-gt-MAX_WEIGHT
returns-then-weight-gt-MAX_WEIGHT c = record { settled = rule-over-weight _ _ (omega arith) (omega arith) }

pub returns : goal.returns
returns c = record { settled = rule-given _ _ (omega arith) (omega arith) }
