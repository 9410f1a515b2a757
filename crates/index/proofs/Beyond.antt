-- Behind what is written everything is as it came in, place by place. Assumes nothing.
--
--   OpenKept index u       == what opening leaves of an index: the entries behind its outlines are as they came in; and a job that is opened
--                             has the offset 0 beside it
--   open_beyond            == that holds of `open`
--   ChangeKept index out u == the same of a change: the entries behind the outlines, and the bytes behind those that are written
--   append-beyond, remove_beyond == that holds of `append` and of `remove`
use Prim.Native.Nat.{ℕ, ◌≤◌}
use mathlib.Core.Path.{◌≡◌, ◌∙◌, refl, sym, ap}
use mathlib.Core.List.{List, ◌++◌}
use mathlib.Core.Bool.{◌&&◌}
use native.Mathlib.Omega.{arith}
use lib.Dec.{leb, ltb}
use lib.ListN.{length, get_or, drop, length-map}
use Rattle.refusal.specs.declared.Refusal.{Refusal}
use Rattle.refusal.specs.declared.Refusal.TheVariants.{Length, Full, Long, Missing, Room}
use Rattle.refusal.specs.Refusals.{refusal_no}
use Rattle.refusal.proofs.Refusals.{never}
use Rattle.number.specs.Reading.{Reading, read, fault}
use Rattle.number.proofs.Number.{cond_cases}
use Rattle.figure.specs.Figure.{Figure, bad_figure}
use Rattle.job.specs.Job.{most_bytes, most_outlines, Part, Job, job}
use Rattle.job.proofs.Beyond.{written-beyond}
use Rattle.index.specs.Index.{starts_of, OpenSaid, unopened, opened_by, opened, ChangeSaid, unchanged, changed_by, changed_to, with_outline, without_outline, appended_to, appended, removed_from, removed}

-- behind the starts of a job at the front of an index
starts-beyond : (j : Job) (index : List ℕ) (i d : ℕ) → length j.parts ≤ i
    → get_or (starts_of j ++ drop (length j.parts) index) i d ≡ get_or index i d
starts-beyond j index i d h =
    let n = length-map j.parts (λ (p : Part). p.start) in
    ap (λ m. get_or (starts_of j ++ drop m index) i d) (sym n) ∙ written-beyond (starts_of j) index i d (omega (arith, h, n))

pub record OpenKept (index : List ℕ) (u : OpenSaid) : Type 0 where
  pub beyond : (i d : ℕ) → u.outlines ≤ i → get_or u.index i d ≡ get_or index i d
  pub done : u.number ≡ 0 → u.offset ≡ 0

pub open_beyond : (s index : List ℕ) → OpenKept index (opened s index)
unfolding opened
open_beyond s index = go (job s)
  where
    no : (r : Refusal) (at : ℕ) → OpenKept index (unopened (refusal_no r) at index)
    no r at = record { beyond = λ i d h. refl; done = λ e. absurd (never r (sym e)) }

    go : (u : Reading Job) → OpenKept index (opened_by index u)
    go (fault r at) = no r at
    go (read j last) =
        cond_cases (OpenKept index) (leb (length j.parts) (length index)) _ _
        (λ e. record { beyond = starts-beyond j index; done = λ z. refl })
        (λ e. no Room 0)

pub record ChangeKept (index out : List ℕ) (u : ChangeSaid) : Type 0 where
  pub beyond : (i d : ℕ) → u.outlines ≤ i → get_or u.index i d ≡ get_or index i d
  pub behind : (i d : ℕ) → u.bytes ≤ i → get_or u.out i d ≡ get_or out i d
  pub done : u.number ≡ 0 → u.offset ≡ 0

module _ (index out : List ℕ) where
  no : (r : Refusal) (at : ℕ) → ChangeKept index out (unchanged (refusal_no r) at index out)
  no r at = record { beyond = λ i d h. refl; behind = λ i d h. refl; done = λ e. absurd (never r (sym e)) }

  changed_beyond : (b : List ℕ) → ChangeKept index out (changed_to b index out)
  unfolding changed_to
  changed_beyond b = go (job b)
    where
      go : (u : Reading Job) → ChangeKept index out (changed_by b index out u)
      go (fault r at) = no r at
      go (read j last) =
          cond_cases (ChangeKept index out) (leb (length b) (length out) && leb (length j.parts) (length index)) _ _
          (λ e. record { beyond = starts-beyond j index; behind = written-beyond b out; done = λ z. refl })
          (λ e. no Room 0)

  pub append-beyond : (s : List ℕ) (f : Figure) → ChangeKept index out (appended s f index out)
  unfolding appended
  append-beyond s f = go (job s)
    where
      go : (u : Reading Job) → ChangeKept index out (appended_to f index out u)
      go (fault r at) = no r at
      go (read j last) =
          cond_cases (ChangeKept index out) (bad_figure f) _ _ (λ e. no Length 0)
          (λ e. cond_cases (ChangeKept index out) (leb most_outlines (length j.parts)) _ _ (λ e. no Full 0)
          (λ e. cond_cases (ChangeKept index out) (ltb most_bytes (length (with_outline j f))) _ _ (λ e. no Long 0)
          (λ e. changed_beyond (with_outline j f))))

  pub remove_beyond : (s : List ℕ) (k : ℕ) → ChangeKept index out (removed s k index out)
  unfolding removed
  remove_beyond s k = go (job s)
    where
      go : (u : Reading Job) → ChangeKept index out (removed_from k index out u)
      go (fault r at) = no r at
      go (read j last) =
          cond_cases (ChangeKept index out) (ltb k (length j.parts)) _ _ (λ e. changed_beyond (without_outline j k)) (λ e. no Missing 0)
