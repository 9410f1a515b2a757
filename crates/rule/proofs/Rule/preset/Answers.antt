-- `Rule::preset` meets its contract: each answer of the table is a case of `preset_told`. Assumes nothing.
use Rattle.std.proofs.Common.{◌≡◌, ℕ}
use mathlib.Core.Path.{ap, ◌∙◌}
use Rattle.std.specs.Prelude.{Option, None, Some}
use Rattle.std.proofs.Common.{Bor}
use Rattle.std.specs.Option.{ok_or, option_copied}
use Rattle.std.specs.Slice.{IsItemAt}
use Rattle.refusal.specs.declared.Refusal.TheVariants.{Preset}
use Rattle.rule.specs.declared.Rule.{Rule}
use Rattle.rule.specs.Rules.{given, made_told, presets, preset_told}
use Rattle.rule.proofs.Rules.{preset_row, preset_past}
use Rattle.rule.proofs.Rule.preset.Goals as goal

told : (n : ℕ) (r : Option (Bor Rule)) → IsItemAt presets n r → made_told (ok_or (option_copied r) Preset) ≡ preset_told n
told n None h = preset_past n h.3
told n (Some r) h = ap given (h.3.1 r.now) ∙ preset_row n r.now h.3.0

pub returns : goal.returns
returns c = record { settled = rw (c.ok_or.ensures.value, c.copied.ensures) (told c.args.number c.get.result c.get.ensures.lookup) }
