-- `pw_cif_write` and `pw_cif_read` are settled: two ways to keep a promise are one. Assumes nothing.
--
--   text_one                    == pw_cif_write
--   listed-one                  == pw_cif_read
use Prim.Native.Nat.{ℕ}
use mathlib.Core.Path.{◌≡◌, sym, ◌∙◌, ap}
use mathlib.Core.List.{List}
use Rattle.cif.specs.Calls.{WriteSaid, ReadSaid, ReadSays}
use Rattle.cif.proofs.Back.{read_one}
use Rattle.capi.specs.TextLent.{text_lent, shots_lent}

pub text_one : (said : WriteSaid) (n bytes n' bytes' : ℕ) (out out' : List ℕ)
    → text_lent n bytes out ≡ said → text_lent n' bytes' out' ≡ said
    → (n ≡ n') × (bytes ≡ bytes') × (out ≡ out')
text_one said n bytes n' bytes' out out' p q =
    let e = p ∙ sym q in (
      ap (λ (o : WriteSaid). o.number) e,
      ap (λ (o : WriteSaid). o.bytes) e,
      ap (λ (o : WriteSaid). o.out) e,
    )

pub listed-one : (s before : List ℕ) (n shots at n' shots' at' : ℕ) (list list' : List ℕ)
    → ReadSays s before (shots_lent n shots at list) → ReadSays s before (shots_lent n' shots' at' list')
    → (n ≡ n') × (shots ≡ shots') × (at ≡ at') × (list ≡ list')
listed-one s before n shots at n' shots' at' list list' p q =
    let e = read_one s before (shots_lent n shots at list) (shots_lent n' shots' at' list') p q in (
      ap (λ (o : ReadSaid). o.number) e,
      ap (λ (o : ReadSaid). o.shots) e,
      ap (λ (o : ReadSaid). o.offset) e,
      ap (λ (o : ReadSaid). o.list) e,
    )
