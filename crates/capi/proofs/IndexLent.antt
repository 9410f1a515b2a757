-- Laws of a pick, said of lent numbers. Assumes nothing.
--
--   pick_fault       == nothing is found
--   pick_part        == an outline is found
--   pick_outline     == by a true index `pw_index_pick` tells what `pw_job_outline` tells of the job: where the outline lies, or 13
use Prim.Native.Nat.{ℕ, ◌-◌}
use mathlib.Core.Path.{◌≡◌, ◌∙◌, sym, ap, ap₂}
use mathlib.Core.List.{List}
use lib.ListN.{length}
use borrow.Author.Tests.{lt-ltb, le-ltb}
use Rattle.refusal.specs.declared.Refusal.{Refusal}
use Rattle.refusal.specs.Refusals.{refusal_no}
use Rattle.number.specs.Reading.{read, fault}
use Rattle.index.specs.Index.{TrueIndex, found}
use Rattle.index.specs.Steps.{place_of}
use Rattle.index.proofs.Starts.{none_found, one_found}
use Rattle.index.proofs.Always.{found_true}
use Rattle.capi.specs.Lent.{outline_lent, job_part, outline_said}
use Rattle.capi.specs.IndexLent.{part_found, pick_said}

module _ (s index : List ℕ) (n k : ℕ) where
  pub pick_fault : {r : Refusal} {p m : ℕ} → fault r p ≡ place_of (found s index n k) → m ≡ refusal_no r → outline_lent m 0 0 p ≡ pick_said s index n k
  unfolding pick_said
  pick_fault {r} {p} e f = ap (λ m. outline_lent m 0 0 p) f ∙ sym (ap part_found (none_found s index n k e))

  pub pick_part : {start end : ℕ} → read start end ≡ place_of (found s index n k) → outline_lent 0 start (end - start) 0 ≡ pick_said s index n k
  unfolding pick_said
  pick_part e =
      let u = one_found s index n k e in
      ap₂ (λ x y. outline_lent 0 x (y - x) 0) (sym u.2) (sym u.3) ∙ sym (ap part_found u.1)

  pub pick_outline : TrueIndex s index n → pick_said s index n k ≡ outline_said s k
  unfolding pick_said outline_said
  pick_outline t =
      found_true s index n k t part_found (job_part k)
      (λ j last end h. simp (lt-ltb k (length j.parts) h))
      (λ j last h. simp (le-ltb k (length j.parts) h))
