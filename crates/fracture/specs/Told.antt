-- To believe: the scope's number and values for each answer of a fracture, and what a fracture without a rule is asked.
--
--   fractured s c v k   == the answer of a fracture into s shots that cost c, with slivers of v, after k cuts
--   denied why n        == the answer that there is none, for this reason, and that n shots are needed
--   told a table list   == what the answer a tells, with what the two buffers hold then: 0 on success; a refusal has zeros for cost,
--                          sliver and cuts, and for the shots those that are needed
--   ahead_told a         == what is told ahead: 0 and the cuts, or the number of the refusal and 0
--   by_default ..        == what a fracture without a rule is asked: straight cuts; threshold and weight are those of the default preset
use Rattle.std.specs.Prelude.{ℕ, List, Result, Ok, Err}
use Rattle.refusal.specs.declared.Refusal.{Refusal}
use Rattle.refusal.specs.Refusals.{refusal_no}
use Rattle.rule.specs.Rules.{preset_told, default_preset}
use Rattle.piece.specs.declared.Mode.TheVariants.{Straight}
use Rattle.demands.specs.Promise.{Asked, asked, Outcome}
use Rattle.demands.specs.Cuts.{Ahead}
use Rattle.fracture.specs.declared.Fractured.{Fractured}
use Rattle.fracture.specs.declared.Denial.{Denial}

abbrev pub fractured : ℕ → ℕ → ℕ → ℕ → Result Fractured Denial
fractured shots cost sliver cuts = Ok (record { shots = shots; cost = cost; sliver = sliver; cuts = cuts })

abbrev pub denied : Refusal → ℕ → Result Fractured Denial
denied why needed = Err (record { why = why; needed = needed })

unfoldable pub told : Result Fractured Denial → List ℕ → List ℕ → Outcome
told (Ok f) table list =
    record { number = 0; shots = f.shots; cost = f.cost; sliver = f.sliver; cuts = f.cuts; table = table; list = list }
told (Err d) table list =
    record { number = refusal_no d.why; shots = d.needed; cost = 0; sliver = 0; cuts = 0; table = table; list = list }

unfoldable pub ahead_told : Result ℕ Refusal → Ahead
ahead_told (Ok n) = record { number = 0; cuts = n }
ahead_told (Err why) = record { number = refusal_no why; cuts = 0 }

abbrev pub by_default : List ℕ → List ℕ → List ℕ → List ℕ → Asked
by_default corners lengths table list =
    asked Straight corners lengths (preset_told default_preset).threshold (preset_told default_preset).weight table list
