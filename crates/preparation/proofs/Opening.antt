-- Laws of opening a job to run it. Assumes nothing.
--
--   begin_refused    == a job that opening refuses is refused by its check, by the same number and place: 255 entries suffice for every index
--   begin_index      == beside a job that is opened stands its true index
--   begin_never      == and its header is no fault
--   begin_accepted   == and its check tells the rule that the header says, and as many outlines
--   picked-taken     == by that index a pick is what taking the outline gives
use Prim.Native.Nat.{ℕ, ◌≤◌}
use mathlib.Core.Path.{◌≡◌, ◌∙◌, refl, sym, ap, ap₂, subst}
use mathlib.Core.List.{List}
use native.Mathlib.Omega.{arith}
use lib.ListN.{length}
use borrow.Author.Tests.{le-leb}
use Rattle.std.specs.Prelude.{Result, Ok, Err}
use Rattle.std.specs.Borrow.{Bor}
use Rattle.refusal.specs.declared.Refusal.{Refusal}
use Rattle.refusal.specs.declared.Fault.{Fault}
use Rattle.refusal.specs.Refusals.{refusal_no}
use Rattle.refusal.proofs.Refusals.{refusal-one, refusal-some}
use Rattle.number.specs.Reading.{Reading, read, fault}
use Rattle.number.proofs.Number.{apart}
use Rattle.number.proofs.Bytes.{AllBytes}
use Rattle.job.specs.Job.{Header, header, Job, job}
use Rattle.job.specs.Calls.{CheckSaid, job_said, checked, check_told, take_told, taken}
use Rattle.job.proofs.Job.{job-whole}
use Rattle.job.proofs.Calls.{job-said}
use Rattle.job.proofs.Anew.{accepted-range}
use Rattle.index.specs.Index.{TrueIndex, OpenSaid, unopened, opened_by, opened, open_told, picked}
use Rattle.index.proofs.Always.{opened_true, pick_true}

module _ (s index after : List ℕ) (bytes : AllBytes s) (room : 255 ≤ length index) (u : Result ℕ Fault) (opening : open_told u after ≡ opened s index) where
  pub begin_refused : (why : Fault) → u ≡ Err why → check_told (Err why) ≡ checked s
  unfolding opened checked
  begin_refused why e = go (job s) refl (ap (λ (v : Result ℕ Fault). open_told v after) (sym e) ∙ opening)
    where
      go : (v : Reading Job) → job s ≡ v → unopened (refusal_no why.why) why.at after ≡ opened_by index v → check_told (Err why) ≡ job_said v
      go (fault c p) q f =
          ap₂ (λ (x : Refusal) y. check_told (Err (record { why = x; at = y }))) (refusal-one why.why c (ap (λ (o : OpenSaid). o.number) f)) (ap (λ (o : OpenSaid). o.offset) f)
      go (read j last) q f =
          let k = (accepted-range s bytes q).count in
          let z : (opened_by index (read j last)).number ≡ 0 = simp (le-leb (length j.parts) (length index) (omega (arith, k))) in
          absurd (omega (arith, refusal-some why.why, ap (λ (o : OpenSaid). o.number) f ∙ z))

  module _ {n : ℕ} (e : u ≡ Ok n) where
    well : record { number = 0; outlines = n; offset = 0; index = after } ≡ opened s index
    well = ap (λ (v : Result ℕ Fault). open_told v after) (sym e) ∙ opening

    pub begin_index : TrueIndex s after n
    begin_index =
        subst (λ (o : OpenSaid). TrueIndex s o.index o.outlines) (sym well) (opened_true s index (sym (ap (λ (o : OpenSaid). o.number) well)))

    pub begin_never : {r : Refusal} {p : ℕ} → fault r p ≡ header s → ⊥
    begin_never f = let w = job-whole s begin_index.accepted in apart (sym w.header_is ∙ sym f)

    pub begin_accepted : {h : Header} {next : ℕ} → read h next ≡ header s → check_told (Ok (record { threshold = h.threshold; weight = h.weight; outlines = n })) ≡ checked s
    unfolding checked
    begin_accepted f =
        let t = begin_index in
        let d = job-said s t.accepted (sym f) in
        let says : ℕ → ℕ → ℕ → CheckSaid = λ x y k. check_told (Ok (record { threshold = x; weight = y; outlines = k })) in
        ap₂ (λ x y. says x y n) (sym d.0) (sym d.1) ∙ ap (says t.says.threshold t.says.weight) t.count ∙ sym (ap job_said t.accepted)

pub picked-taken : (s index : List ℕ) (n k : ℕ) → TrueIndex s index n → (r : Result (Bor (List ℕ)) Fault) → take_told r ≡ picked s index n k → take_told r ≡ taken s k
picked-taken s index n k t r e = e ∙ pick_true s index n k t
