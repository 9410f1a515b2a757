-- An index stays true through any run of calls, and picking by a true index is taking. Assumes nothing.
--
--   opened_true, changed_true == a job that is opened, or written anew, has a true index beside it
--   unopened-kept    == a job that is not opened leaves the index as it came in
--   Left, append_left, remove_left == an accepted change leaves a true index of the new job, a refused one leaves the index as it came in
--   reached_true     == after any run of these calls from an opened job the index is what a full reading would give
--   found_true       == by a true index what is found is the outline of the job, whatever is told of both
--   pick_true, pick_placed == so a pick is what taking the outline gives, and lies where that lies, also among outlines of equal bytes
use Prim.Native.Nat.{ℕ, ◌<◌, ◌≤◌}
use mathlib.Core.Path.{◌≡◌, ◌∙◌, refl, sym, ap, subst}
use mathlib.Core.Logic.{inl, inr}
use mathlib.Core.List.{List, ◌++◌}
use mathlib.Core.Bool.{Bool, true, false, cond, ◌&&◌}
use native.Mathlib.Omega.{arith}
use lib.Dec.{leb, ltb}
use lib.ListN.{length, get_or, take, drop, length-map, length-take, get_or-map}
use lib.Seq.{take_at, get_or-take}
use borrow.Author.Tests.{le-ltb, lt-ltb}
use Rattle.sum.proofs.Sum.{le-or}
use Rattle.refusal.specs.declared.Refusal.{Refusal}
use Rattle.refusal.specs.declared.Refusal.TheVariants.{Length, Full, Long, Missing, Room}
use Rattle.refusal.specs.Refusals.{refusal_no}
use Rattle.refusal.proofs.Refusals.{never}
use Rattle.number.specs.Reading.{Reading, read, fault}
use Rattle.number.proofs.Number.{cond_cases}
use Rattle.number.proofs.Reading.{many-nth, many-length}
use Rattle.figure.specs.Figure.{Figure, bad_figure}
use Rattle.job.specs.Job.{most_bytes, most_outlines, Part, part, outlines, Job, job}
use Rattle.job.specs.Calls.{no_part, part_taken, taken}
use Rattle.job.specs.Placed.{start_of, taken_at}
use Rattle.job.proofs.Job.{job-whole, part-read}
use Rattle.index.specs.Index.{starts_of, TrueIndex, OpenSaid, unopened, opened_by, opened, ChangeSaid, unchanged, changed_by, changed_to, with_outline, without_outline, appended_to, appended, removed_from, removed, found, picked_by, picked, start_in, picked_at}
use Rattle.index.specs.Reached.{Reached, by_open, by_append, by_remove, not_opened, not-appended, not-removed}

-- the starts of a job at the front of a list
front_true : (s index : List ℕ) {j : Job} {last : ℕ} → job s ≡ read j last → TrueIndex s (starts_of j ++ drop (length j.parts) index) (length j.parts)
front_true s index {j} {last} e =
    record {
      says = j;
      last = last;
      accepted = e;
      count = refl;
      starts = take_at (starts_of j) (drop (length j.parts) index) (length j.parts) (length-map j.parts (λ (p : Part). p.start));
    }

pub opened_true : (s index : List ℕ) → (opened s index).number ≡ 0 → TrueIndex s (opened s index).index (opened s index).outlines
unfolding opened
opened_true s index e = go (job s) refl e
  where
    fits : (j : Job) (last : ℕ) → job s ≡ read j last → (b : Bool) (u : OpenSaid)
        → TrueIndex s u.index u.outlines → (cond b u (unopened (refusal_no Room) 0 index)).number ≡ 0
        → TrueIndex s (cond b u (unopened (refusal_no Room) 0 index)).index (cond b u (unopened (refusal_no Room) 0 index)).outlines
    fits j last q true u h f = h
    fits j last q false u h f = absurd (never Room (sym f))

    go : (u : Reading Job) → job s ≡ u → (opened_by index u).number ≡ 0 → TrueIndex s (opened_by index u).index (opened_by index u).outlines
    go (fault r p) q f = absurd (never r (sym f))
    go (read j last) q f = fits j last q (leb (length j.parts) (length index)) _ (front_true s index q) f

pub unopened-kept : (s index : List ℕ) → ((opened s index).number ≡ 0 → ⊥) → (opened s index).index ≡ index
unfolding opened
unopened-kept s index = go (job s)
  where
    go : (u : Reading Job) → ((opened_by index u).number ≡ 0 → ⊥) → (opened_by index u).index ≡ index
    go (fault r p) = λ n. refl
    go (read j last) =
        cond_cases (λ (u : OpenSaid). (u.number ≡ 0 → ⊥) → u.index ≡ index) (leb (length j.parts) (length index)) _ _
        (λ e n. absurd (n refl))
        (λ e n. refl)

-- what an accepted change leaves, and a refused one
abbrev pub Left : List ℕ → ChangeSaid → Type 0
Left index u =
    (u.number ≡ 0 → TrueIndex (take u.bytes u.out) u.index u.outlines) × ((u.number ≡ 0 → ⊥) → u.index ≡ index)

left-refused : (index out : List ℕ) (r : Refusal) (at : ℕ) → Left index (unchanged (refusal_no r) at index out)
left-refused index out r at = ((λ e. absurd (never r (sym e))), λ n. refl)

left-cond : (index : List ℕ) (b : Bool) (u v : ChangeSaid) → Left index u → Left index v → Left index (cond b u v)
left-cond index true u v x y = x
left-cond index false u v x y = y

pub changed_true : (b index out : List ℕ) → Left index (changed_to b index out)
unfolding changed_to
changed_true b index out = go (job b) refl
  where
    go : (u : Reading Job) → job b ≡ u → Left index (changed_by b index out u)
    go (fault r p) q = left-refused index out r p
    go (read j last) q =
        left-cond index (leb (length b) (length out) && leb (length j.parts) (length index)) _ _ (
          (λ e.
              subst (λ (l : List ℕ). TrueIndex l (starts_of j ++ drop (length j.parts) index) (length j.parts))
              (sym (take_at b (drop (length b) out) (length b) refl))
              (front_true b index q)),
          λ n. absurd (n refl),
        )
        (left-refused index out Room 0)

pub append_left : (s : List ℕ) (f : Figure) (index out : List ℕ) → Left index (appended s f index out)
unfolding appended
append_left s f index out = go (job s)
  where
    go : (u : Reading Job) → Left index (appended_to f index out u)
    go (fault r p) = left-refused index out r p
    go (read j last) =
        left-cond index (bad_figure f) _ _ (left-refused index out Length 0)
        (left-cond index (leb most_outlines (length j.parts)) _ _ (left-refused index out Full 0)
        (left-cond index (ltb most_bytes (length (with_outline j f))) _ _ (left-refused index out Long 0) (changed_true (with_outline j f) index out)))

pub remove_left : (s : List ℕ) (k : ℕ) (index out : List ℕ) → Left index (removed s k index out)
unfolding removed
remove_left s k index out = go (job s)
  where
    go : (u : Reading Job) → Left index (removed_from k index out u)
    go (fault r p) = left-refused index out r p
    go (read j last) =
        left-cond index (ltb k (length j.parts)) _ _ (changed_true (without_outline j k) index out) (left-refused index out Missing 0)

pub reached_true : {s index : List ℕ} {n : ℕ} → Reached s index n → TrueIndex s index n
reached_true (by_open s index e) = opened_true s index e
reached_true (by_append s index out m f r e) = (append_left s f index out).0 e
reached_true (by_remove s index out m k r e) = (remove_left s k index out).0 e
reached_true (not_opened s index n b r e) = subst (λ (l : List ℕ). TrueIndex s l n) (sym (unopened-kept b index e)) (reached_true r)
reached_true (not-appended s index out n f r e) =
    subst (λ (l : List ℕ). TrueIndex s l n) (sym ((append_left s f index out).1 e)) (reached_true r)
reached_true (not-removed s index out n k r e) =
    subst (λ (l : List ℕ). TrueIndex s l n) (sym ((remove_left s k index out).1 e)) (reached_true r)

-- a pick by a true index

module _ (s index : List ℕ) (n k : ℕ) (t : TrueIndex s index n) where
  abbrev says : Job
  says = t.says

  -- the index has room for its count
  room : n ≤ length index
  room = omega (arith, ap length t.starts, length-take n index, length-map says.parts (λ (p : Part). p.start), t.count)

  short : ltb most_bytes (length s) ≡ false
  short = le-ltb most_bytes (length s) (job-whole s t.accepted).short

  -- entry k is where outline k begins
  pub entry_true : k < n → get_or index k 0 ≡ (get_or says.parts k no_part).start
  entry_true h =
      sym (get_or-take n index k 0 h)
      ∙ ap (λ (l : List ℕ). get_or l k 0) t.starts
      ∙ get_or-map (λ (p : Part). p.start) says.parts k no_part

  there : k < n → (end : ℕ) × (part s (get_or index k 0) ≡ read (get_or says.parts k no_part) end)
  unfolding outlines
  there h =
      let w = job-whole s t.accepted in
      let long = many-length (part s) w.head.count w.first w.parts_are in
      let m = many-nth (part s) w.head.count w.first k no_part w.parts_are (omega (arith, h, t.count, long)) in
      let r = part-read s m.1 m.4 in
      (m.2, ap (part s) (entry_true h ∙ r.1) ∙ m.4)

  found_in : (h : k < n) → found s index n k ≡ read (get_or says.parts k no_part) (there h).0
  unfolding found
  found_in h =
      let p : cond (ltb most_bytes (length s)) (fault Long 0) (cond (ltb k n && ltb k (length index)) (part s (get_or index k 0)) (fault Missing 0))
      ≡ part s (get_or index k 0) =
      simp (short, lt-ltb k n h, lt-ltb k (length index) (omega (arith, h, room)))
      in p ∙ (there h).1

  found-out : n ≤ k → found s index n k ≡ fault Missing 0
  unfolding found
  found-out h = simp (short, le-ltb k n h)

  -- whatever is told of the outline that is found, and of the job, is the same if it is for each outline of a job, and past the last
  pub found_true : {A : Type 0} (by : Reading Part → A) (of : Reading Job → A)
      → ((j : Job) (last end : ℕ) → k < length j.parts → by (read (get_or j.parts k no_part) end) ≡ of (read j last))
      → ((j : Job) (last : ℕ) → length j.parts ≤ k → by (fault Missing 0) ≡ of (read j last))
      → by (found s index n k) ≡ of (job s)
  found_true by of within past = elim (le-or n k) [
    | inl h ↦ ap by (found-out h) ∙ past says t.last (omega (arith, h, t.count)) ∙ sym (ap of t.accepted)
    | inr h ↦ ap by (found_in h) ∙ within says t.last (there h).0 (omega (arith, h, t.count)) ∙ sym (ap of t.accepted)
  ]

  pub pick_true : picked s index n k ≡ taken s k
  unfolding picked taken
  pick_true =
      found_true (picked_by s) (part_taken s k)
      (λ j last end h. simp (lt-ltb k (length j.parts) h))
      (λ j last h. simp (le-ltb k (length j.parts) h))

  pub pick_placed : picked_at s index n k ≡ taken_at s k
  unfolding picked_at taken_at
  pick_placed =
      found_true start_in (start_of k)
      (λ j last end h. simp (lt-ltb k (length j.parts) h))
      (λ j last h. simp (le-ltb k (length j.parts) h))
