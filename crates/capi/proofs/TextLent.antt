-- What reading a CIF text tells, said of lent numbers. Assumes nothing.
--
--   read-shots, read-refused  == the two cases of the answer
use Prim.Native.Nat.{ℕ}
use mathlib.Core.Path.{◌≡◌, sym, ap₂, subst}
use mathlib.Core.List.{List}
use Rattle.std.specs.Prelude.{Result, Ok, Err}
use Rattle.refusal.specs.declared.Fault.{Fault}
use Rattle.refusal.specs.Refusals.{refusal_no}
use Rattle.cif.specs.Calls.{ReadSaid, ReadSays, read_told}
use Rattle.capi.specs.TextLent.{shots_lent}

module _ {s before after : List ℕ} {answer : Result ℕ Fault} (says : ReadSays s before (read_told answer after)) where
  pub read-shots : {n : ℕ} → answer ≡ Ok n → ReadSays s before (shots_lent 0 n 0 after)
  read-shots e = subst (λ t. ReadSays s before (read_told t after)) e says

  pub read-refused : {n at : ℕ} {fault : Fault} → answer ≡ Err fault → n ≡ refusal_no fault.why → at ≡ fault.at → ReadSays s before (shots_lent n 0 at after)
  read-refused {n} {at} {fault} e f g =
      let same : shots_lent (refusal_no fault.why) 0 fault.at after ≡ shots_lent n 0 at after = ap₂ (λ m p. shots_lent m 0 p after) (sym f) (sym g) in
      subst (λ (t : ReadSaid). ReadSays s before t) same (subst (λ t. ReadSays s before (read_told t after)) e says)
