-- The calls on an index are settled: two ways to keep a promise are one. Assumes nothing. (`pw_index_pick`: outline-one.)
--
--   open_one                    == pw_index_open
--   change_one                  == pw_index_append, pw_index_remove
use Prim.Native.Nat.{ℕ}
use mathlib.Core.Path.{◌≡◌, sym, ◌∙◌, ap}
use mathlib.Core.List.{List}
use Rattle.index.specs.Index.{OpenSaid, ChangeSaid}
use Rattle.capi.specs.IndexLent.{open_lent, change_lent}

pub open_one : (said : OpenSaid) (n outlines at n' outlines' at' : ℕ) (index index' : List ℕ)
    → open_lent n outlines at index ≡ said → open_lent n' outlines' at' index' ≡ said
    → (n ≡ n') × (outlines ≡ outlines') × (at ≡ at') × (index ≡ index')
open_one said n outlines at n' outlines' at' index index' p q =
    let e = p ∙ sym q in (
      ap (λ (o : OpenSaid). o.number) e,
      ap (λ (o : OpenSaid). o.outlines) e,
      ap (λ (o : OpenSaid). o.offset) e,
      ap (λ (o : OpenSaid). o.index) e,
    )

pub change_one : (said : ChangeSaid) (n bytes outlines at n' bytes' outlines' at' : ℕ) (index out index' out' : List ℕ)
    → change_lent n bytes outlines at index out ≡ said → change_lent n' bytes' outlines' at' index' out' ≡ said
    → (n ≡ n') × (bytes ≡ bytes') × (outlines ≡ outlines') × (at ≡ at') × (index ≡ index') × (out ≡ out')
change_one said n bytes outlines at n' bytes' outlines' at' index out index' out' p q =
    let e = p ∙ sym q in (
      ap (λ (o : ChangeSaid). o.number) e,
      ap (λ (o : ChangeSaid). o.bytes) e,
      ap (λ (o : ChangeSaid). o.outlines) e,
      ap (λ (o : ChangeSaid). o.offset) e,
      ap (λ (o : ChangeSaid). o.index) e,
      ap (λ (o : ChangeSaid). o.out) e,
    )
