-- Laws of how a run ends. Assumes nothing.
--
--   whole-both        == whether nothing is lost or dropped, where no outline is lost
--   whole-not         == and where one is
--   status-refused    == the status of a job that cannot be saved
--   status-saved      == that of a job that was saved, by what is lost and dropped
--   ends-saved        == how the program ends after a job that was saved
use Prim.Native.Nat.{ℕ}
use mathlib.Core.Path.{◌≡◌, sym, ◌∙◌, ap}
use mathlib.Core.Logic.{◌⊎◌, inl, inr, ⊎_elim}
use mathlib.Core.Bool.{Bool, cond, ◌&&◌}
use mathlib.Core.List.{List}
use native.Mathlib.Omega.{arith}
use lib.Dec.{eqb}
use borrow.Author.Tests.{eq-eqb, ne_eqb}
use Rattle.std.specs.Prelude.{Result, Ok, Err}
use Rattle.refusal.specs.declared.Fault.{Fault}
use Rattle.refusal.specs.Refusals.{refusal_no}
use Rattle.refusal.proofs.Refusals.{refusal-some}
use Rattle.saving.specs.declared.Saved.{Saved}
use Rattle.saving.specs.Salvage.{SaveSaid, saved, save_told}
use Rattle.rescue.specs.Status.{nothing_lost, status}

pub whole-both : (lost dropped : ℕ) → lost ≡ 0 → eqb dropped 0 ≡ (eqb lost 0 && eqb dropped 0)
whole-both lost dropped e = sym (ap (λ (t : Bool). t && eqb dropped 0) (eq-eqb lost 0 e))

pub whole-not : (lost dropped : ℕ) → (lost ≡ 0 → ⊥) → eqb lost 0 ≡ (eqb lost 0 && eqb dropped 0)
whole-not lost dropped e = ne_eqb lost 0 e ∙ sym (ap (λ (t : Bool). t && eqb dropped 0) (ne_eqb lost 0 e))

module _ (s room after : List ℕ) (u : Result Saved Fault) (saving : save_told u after ≡ saved s room) where
  pub status-refused : (why : Fault) → u ≡ Err why → 1 ≡ status s room
  unfolding status
  status-refused why e =
      let some = refusal-some why.why in
      let told : SaveSaid = save_told (Err why) after in
      let no = ne_eqb (refusal_no why.why) 0 (λ z. omega arith) in
      sym (ap (λ (b : Bool). cond (b && (eqb told.lost 0 && eqb told.dropped 0)) 0 1) no)
      ∙ ap (λ (w : SaveSaid). cond (nothing_lost w) 0 1) (ap (λ (v : Result Saved Fault). save_told v after) (sym e) ∙ saving)

  pub status-saved : {v : Saved} → u ≡ Ok v → {b : Bool} → b ≡ (eqb v.lost 0 && eqb v.dropped 0) → cond b 0 1 ≡ status s room
  unfolding status
  status-saved e f =
      ap (λ (c : Bool). cond c 0 1) f
      ∙ ap (λ (w : SaveSaid). cond (nothing_lost w) 0 1) (ap (λ (v : Result Saved Fault). save_told v after) (sym e) ∙ saving)

  pub ends-saved : {v : Saved} → u ≡ Ok v → {b : Bool} → b ≡ (eqb v.lost 0 && eqb v.dropped 0) → {n : ℕ}
      → (n ≡ 2) ⊎ (n ≡ cond b 0 1) → (n ≡ 2) ⊎ (n ≡ status s room)
  ends-saved e f ends = ⊎_elim inl (λ g. inr (g ∙ status-saved e f)) ends
