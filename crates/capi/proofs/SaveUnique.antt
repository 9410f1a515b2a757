-- `pw_salvage` is settled: two ways to keep its promise are one. Assumes nothing.
--
--   save_one                    == pw_salvage
use Prim.Native.Nat.{ℕ}
use mathlib.Core.Path.{◌≡◌, sym, ◌∙◌, ap}
use mathlib.Core.List.{List}
use Rattle.saving.specs.Salvage.{SaveSaid}
use Rattle.capi.specs.SaveLent.{save_lent}

pub save_one : (said : SaveSaid) (n bytes kept lost dropped at n' bytes' kept' lost' dropped' at' : ℕ) (out out' : List ℕ)
    → save_lent n bytes kept lost dropped at out ≡ said → save_lent n' bytes' kept' lost' dropped' at' out' ≡ said
    → (n ≡ n') × (bytes ≡ bytes') × (kept ≡ kept') × (lost ≡ lost') × (dropped ≡ dropped') × (at ≡ at') × (out ≡ out')
save_one said n bytes kept lost dropped at n' bytes' kept' lost' dropped' at' out out' p q =
    let e = p ∙ sym q in (
      ap (λ (o : SaveSaid). o.number) e,
      ap (λ (o : SaveSaid). o.bytes) e,
      ap (λ (o : SaveSaid). o.kept) e,
      ap (λ (o : SaveSaid). o.lost) e,
      ap (λ (o : SaveSaid). o.dropped) e,
      ap (λ (o : SaveSaid). o.offset) e,
      ap (λ (o : SaveSaid). o.out) e,
    )
