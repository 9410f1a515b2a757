-- To believe: the rule, its limits, the preset table, and what the two calls tell.
--
--   limit          == the most that a threshold (nm) and a weight (thousandths of a shot per nm) may be
--   inRange t w    == whether threshold and weight are both within the limit
--   Told           == what a call tells that gives a rule: the scope's number (0 on success), the threshold, the weight
--   given r        == the rule r is given
--   refused n      == refused by the number n, zeros beside it
--   rule_told t w   == the rule of threshold t and weight w, or 1
--   presets        == docs/SCOPE.md, "Rules by preset", by the rows' numbers
--   preset_told n   == the row n, or 15
--   default_preset  == Item 7: the number of the row that a fracture without a rule goes by
--   made_told       == what each answer of the two calls tells
use Rattle.std.specs.Prelude.{ℕ, zero, suc, List, [], ◌∷◌, Bool, cond, ◌&&◌, leb, Result, Ok, Err}
use Rattle.refusal.specs.declared.Refusal.{Refusal}
use Rattle.refusal.specs.declared.Refusal.TheVariants as because
use Rattle.refusal.specs.Refusals.{refusal_no}
use Rattle.rule.specs.declared.Rule.{Rule}

abbrev pub limit : ℕ
limit = 1000

unfoldable pub in_range : ℕ → ℕ → Bool
in_range t w = leb t limit && leb w limit

pub record Told : Type 0 where
  pub number : ℕ
  pub threshold : ℕ
  pub weight : ℕ

abbrev pub given : Rule → Told
given r = record { number = 0; threshold = r.threshold; weight = r.weight }

abbrev pub refused : ℕ → Told
refused n = record { number = n; threshold = 0; weight = 0 }

unfoldable pub rule_told : ℕ → ℕ → Told
rule_told t w = cond (in_range t w) (given (record { threshold = t; weight = w })) (refused (refusal_no because.Rule))

abbrev pub presets : List Rule
presets =
    record { threshold = 25; weight = 40 }
    ∷ record { threshold = 10; weight = 100 }
    ∷ record { threshold = 5; weight = 200 }
    ∷ record { threshold = 50; weight = 20 }
    ∷ []

-- the row of a table by its number, or 15
abbrev pub row : List Rule → ℕ → Told
row [] n = refused (refusal_no because.Preset)
row (r ∷ rs) zero = given r
row (r ∷ rs) (suc n) = row rs n

unfoldable pub preset_told : ℕ → Told
preset_told n = row presets n

abbrev pub default_preset : ℕ
default_preset = 1

abbrev pub made_told : Result Rule Refusal → Told
made_told (Ok r) = given r
made_told (Err why) = refused (refusal_no why)
