-- The calls on an index are refused exactly when the scope says so, by the first condition in its order, and then nothing moves. Assumes
-- nothing.
--
--   exactly, accepted, keeps == of any answer: what is told by a law for each condition, and by cases
--   unread_exactly   == reading an outline at a place has a fault exactly when `Unread` says so
--   open_exactly, append_exactly, remove_exactly, pick_exactly == the call tells r with the offset o exactly when that is its fault
--   open_accepted, append-accepted, remove_accepted, pick_accepted == it tells 0 exactly when it has none
--   open_keeps, append-keeps, remove_keeps, pick_empty == beside a refusal all lent memory is as it came in, and zeros stand beside its number
--                       and offset; of a pick the part is empty
use Prim.Native.Nat.{ℕ, suc, ◌+◌, ◌-◌, ◌<◌, ◌≤◌}
use mathlib.Core.Path.{◌≡◌, ◌∙◌, refl, sym, ap, ap₂, subst}
use mathlib.Core.Logic.{◌⊎◌, ◌↔◌, inl, inr}
use mathlib.Core.List.{List, []}
use mathlib.Core.Bool.{Bool, true, false, cond, ◌&&◌}
use native.Mathlib.Omega.{arith}
use lib.Dec.{leb, ltb}
use lib.ListN.{length, get_or}
use borrow.Author.Tests.{le-leb, lt-leb, lt-ltb, le-ltb, leb-true, leb-false, ltb-true, ltb-false}
use Rattle.sum.specs.Sum.{All}
use Rattle.refusal.specs.declared.Refusal.{Refusal}
use Rattle.refusal.specs.declared.Refusal.TheVariants.{Length, Full, Long, Missing, Room}
use Rattle.refusal.specs.Refusals.{refusal_no}
use Rattle.refusal.proofs.Refusals.{refusal-one, never}
use Rattle.number.specs.Reading.{Reading, read, fault, past}
use Rattle.number.proofs.Reading.{then-end, past-fault}
use Rattle.number.proofs.Bytes.{AllBytes}
use Rattle.figure.specs.Figure.{Figure, BadLengths, bad_figure}
use Rattle.figure.proofs.Fault.{bad_lengths, good-lengths}
use Rattle.job.specs.Job.{most_bytes, most_outlines, Part, part, outline, Job, job}
use Rattle.job.specs.Calls.{TakeSaid, told}
use Rattle.job.specs.Faults.{figure_wants}
use Rattle.job.proofs.Job.{part-past}
use Rattle.job.proofs.Wanted.{one, follow, FollowTold, follow-told, legal_same, bad_follow}
use Rattle.job.proofs.Exactly.{job_exactly, job-says, says-job}
use Rattle.index.specs.Index.{OpenSaid, unopened, opened_by, opened, ChangeSaid, unchanged, changed_by, changed_to, with_outline, without_outline, appended_to, appended, removed_from, removed, found, picked_by, picked}
use Rattle.index.specs.Faults.{longer, shorter, Unread, OpenFault, not_opened, open_room, AppendFault, not-read, append-lengths, append-full, append-long, append-room, RemoveFault, not_taken, remove_missing, remove_room, PickFault, pick_long, pick_missing, pick_unread}
use Rattle.index.proofs.Offsets.{with_long, with_back, with_count, without-long, without_back, without-count}

-- any answer u, of which a number and an offset are read, `no n o` being a refusal: a law for each condition, and cases
module _ {U : Type 0} (num off : U → ℕ) (no : ℕ → ℕ → U) (num-no : (n o : ℕ) → num (no n o) ≡ n) (off-no : (n o : ℕ) → off (no n o) ≡ o)
    (C : Refusal → ℕ → Type 0) (u : U) (law : (r : Refusal) (o : ℕ) → C r o → u ≡ no (refusal_no r) o)
    (cases : ((r : Refusal) × (o : ℕ) × C r o) ⊎ (num u ≡ 0)) where
  number_of : (r : Refusal) (o : ℕ) → C r o → num u ≡ refusal_no r
  number_of r o h = ap num (law r o h) ∙ num-no (refusal_no r) o

  pub exactly : (r : Refusal) (o : ℕ) → ((num u ≡ refusal_no r) × (off u ≡ o)) ↔ C r o
  exactly r o = ((λ e. go cases e.0 e.1), λ h. (number_of r o h, ap off (law r o h) ∙ off-no (refusal_no r) o))
    where
      go : ((r : Refusal) × (o : ℕ) × C r o) ⊎ (num u ≡ 0) → num u ≡ refusal_no r → off u ≡ o → C r o
      go (inl h) n p =
          let a : h.0 ≡ r = refusal-one h.0 r (sym (number_of h.0 h.1 h.2) ∙ n) in
          let b : h.1 ≡ o = sym (ap off (law h.0 h.1 h.2) ∙ off-no (refusal_no h.0) h.1) ∙ p in
          subst (λ m. C r m) b (subst (λ (c : Refusal). C c h.1) a h.2)
      go (inr z) n p = absurd (never r (sym z ∙ n))

  pub accepted : (num u ≡ 0) ↔ ((r : Refusal) (o : ℕ) → C r o → ⊥)
  accepted = ((λ z r o h. never r (sym z ∙ number_of r o h)), λ f. go cases f)
    where
      go : ((r : Refusal) × (o : ℕ) × C r o) ⊎ (num u ≡ 0) → ((r : Refusal) (o : ℕ) → C r o → ⊥) → num u ≡ 0
      go (inl h) f = absurd (f h.0 h.1 h.2)
      go (inr z) f = z

  pub keeps : (r : Refusal) → num u ≡ refusal_no r → u ≡ no (refusal_no r) (off u)
  keeps r n = law r (off u) ((exactly r (off u)).0 (n, refl))

-- Opening

module _ (s index : List ℕ) where
  open_law : (r : Refusal) (o : ℕ) → OpenFault s index r o → opened s index ≡ unopened (refusal_no r) o index
  unfolding opened
  open_law r o (not_opened f) = ap (opened_by index) ((job_exactly s r o).1 f)
  open_law r o (open_room says few) =
      let j = says-job s says in
      let p : opened_by index (read j.0 (length s)) ≡ unopened (refusal_no Room) 0 index =
      simp (lt-leb (length j.0.parts) (length index) (omega (arith, j.2)))
      in ap (opened_by index) j.1 ∙ p

  open_cases : ((r : Refusal) × (o : ℕ) × OpenFault s index r o) ⊎ ((opened s index).number ≡ 0)
  unfolding opened
  open_cases = go (job s) refl
    where
      fits : (j : Job) (last : ℕ) → job s ≡ read j last → (b : Bool) → leb (length j.parts) (length index) ≡ b → (u : OpenSaid) → u.number ≡ 0
          → ((r : Refusal) × (o : ℕ) × OpenFault s index r o) ⊎ ((cond b u (unopened (refusal_no Room) 0 index)).number ≡ 0)
      fits j last e true h u z = inr z
      fits j last e false h u z = inl (Room, 0, open_room (job-says s e) (leb-false (length j.parts) (length index) h))

      go : (u : Reading Job) → job s ≡ u → ((r : Refusal) × (o : ℕ) × OpenFault s index r o) ⊎ ((opened_by index u).number ≡ 0)
      go (fault r o) e = inl (r, o, not_opened ((job_exactly s r o).0 e))
      go (read j last) e = fits j last e (leb (length j.parts) (length index)) refl _ refl

  pub open_exactly : (r : Refusal) (o : ℕ) → (((opened s index).number ≡ refusal_no r) × ((opened s index).offset ≡ o)) ↔ OpenFault s index r o
  open_exactly =
      exactly (λ (u : OpenSaid). u.number) (λ (u : OpenSaid). u.offset) (λ n o. unopened n o index) (λ n o. refl) (λ n o. refl)
      (OpenFault s index) (opened s index) open_law open_cases

  pub open_accepted : ((opened s index).number ≡ 0) ↔ ((r : Refusal) (o : ℕ) → OpenFault s index r o → ⊥)
  open_accepted =
      accepted (λ (u : OpenSaid). u.number) (λ (u : OpenSaid). u.offset) (λ n o. unopened n o index) (λ n o. refl) (λ n o. refl)
      (OpenFault s index) (opened s index) open_law open_cases

  pub open_keeps : (r : Refusal) → (opened s index).number ≡ refusal_no r → opened s index ≡ unopened (refusal_no r) (opened s index).offset index
  open_keeps =
      keeps (λ (u : OpenSaid). u.number) (λ (u : OpenSaid). u.offset) (λ n o. unopened n o index) (λ n o. refl) (λ n o. refl)
      (OpenFault s index) (opened s index) open_law open_cases

-- Changing: a new job that is read, by the room lent

both_true : (x y : Bool) (u v : ChangeSaid) → x ≡ true → y ≡ true → cond (x && y) u v ≡ u
both_true x y u v p q = ap₂ (λ (a b : Bool). cond (a && b) u v) p q

second_false : (x y : Bool) (u v : ChangeSaid) → y ≡ false → cond (x && y) u v ≡ v
second_false true y u v q = ap (λ (b : Bool). cond b u v) q
second_false false y u v q = refl

module _ (b index out : List ℕ) {i : Job} {last : ℕ} (e : job b ≡ read i last) where
  changed_room : (length out < length b) ⊎ (length index < length i.parts) → changed_to b index out ≡ unchanged (refusal_no Room) 0 index out
  unfolding changed_to
  changed_room (inl h) =
      let p : changed_by b index out (read i last) ≡ unchanged (refusal_no Room) 0 index out = simp (lt-leb (length b) (length out) h) in
      ap (changed_by b index out) e ∙ p
  changed_room (inr h) =
      ap (changed_by b index out) e
      ∙ second_false (leb (length b) (length out)) (leb (length i.parts) (length index)) _ _ (lt-leb (length i.parts) (length index) h)

  changed_cases : ((length out < length b) ⊎ (length index < length i.parts)) ⊎ ((changed_to b index out).number ≡ 0)
  unfolding changed_to
  changed_cases = go (leb (length b) (length out)) refl (leb (length i.parts) (length index)) refl
    where
      go : (x : Bool) → leb (length b) (length out) ≡ x → (y : Bool) → leb (length i.parts) (length index) ≡ y
          → ((length out < length b) ⊎ (length index < length i.parts)) ⊎ ((changed_by b index out (job b)).number ≡ 0)
      go true p true q =
          inr (ap (λ (w : ChangeSaid). w.number) (ap (changed_by b index out) e ∙ both_true (leb (length b) (length out)) (leb (length i.parts) (length index)) _ _ p q))
      go true p false q = inl (inr (leb-false (length i.parts) (length index) q))
      go false p y q = inl (inl (leb-false (length b) (length out) p))

-- Appending

module _ (f : Figure) where
  bad_true : BadLengths f → bad_figure f ≡ true
  bad_true h = go (bad_figure f) refl
    where
      go : (b : Bool) → bad_figure f ≡ b → bad_figure f ≡ true
      go true e = e
      go false e = absurd (good-lengths f e h)

  bad_false : (BadLengths f → ⊥) → bad_figure f ≡ false
  bad_false h = go (bad_figure f) refl
    where
      go : (b : Bool) → bad_figure f ≡ b → bad_figure f ≡ false
      go true e = absurd (h (bad_lengths f e))
      go false e = e

module _ (s : List ℕ) (bytes : AllBytes s) (f : Figure) (words : All (λ n. n ≤ 65535) f.numbers) (index out : List ℕ) where
  append_law : (r : Refusal) (o : ℕ) → AppendFault s f index out r o → appended s f index out ≡ unchanged (refusal_no r) o index out
  unfolding appended
  append_law r o (not-read h) = ap (appended_to f index out) ((job_exactly s r o).1 h)
  append_law r o (append-lengths says bad) =
      let j = says-job s says in
      let p : appended_to f index out (read j.0 (length s)) ≡ unchanged (refusal_no Length) 0 index out = simp (bad_true f bad) in
      ap (appended_to f index out) j.1 ∙ p
  append_law r o (append-full says good full) =
      let j = says-job s says in
      let p : appended_to f index out (read j.0 (length s)) ≡ unchanged (refusal_no Full) 0 index out =
      simp (bad_false f good, le-leb most_outlines (length j.0.parts) (omega (arith, j.2)))
      in ap (appended_to f index out) j.1 ∙ p
  append_law r o (append-long {t} {w} {n} says good few long) =
      let j = says-job s says in
      let fewer : length j.0.parts < most_outlines = omega (arith, j.2) in
      let size = with_long s bytes j.1 f fewer ∙ ap (longer s f) j.2 in
      let p : appended_to f index out (read j.0 (length s)) ≡ unchanged (refusal_no Long) 0 index out =
      simp (bad_false f good, lt-leb most_outlines (length j.0.parts) fewer, lt-ltb most_bytes (length (with_outline j.0 f)) (omega (arith, size)))
      in ap (appended_to f index out) j.1 ∙ p
  append_law r o (append-room {t} {w} {n} says good few short room) =
      let j = says-job s says in
      let fewer : length j.0.parts < most_outlines = omega (arith, j.2) in
      let size = with_long s bytes j.1 f fewer ∙ ap (longer s f) j.2 in
      let fits : length (with_outline j.0 f) ≤ most_bytes = omega (arith, size) in
      let back = with_back s bytes j.1 f fewer (bad_false f good) words fits in
      let p : appended_to f index out (read j.0 (length s)) ≡ changed_to (with_outline j.0 f) index out =
      simp (bad_false f good, lt-leb most_outlines (length j.0.parts) fewer, le-ltb most_bytes (length (with_outline j.0 f)) fits)
      in
      let count = with_count s bytes j.1 f fewer ∙ ap (λ m. m + 1) j.2 in
      ap (appended_to f index out) j.1 ∙ p ∙ changed_room (with_outline j.0 f) index out back (go j.0 size count room)
    where
      go : (j : Job) {k : ℕ} → length (with_outline j f) ≡ longer s f n → k ≡ n + 1 → (length out < longer s f n) ⊎ (length index < n + 1)
          → (length out < length (with_outline j f)) ⊎ (length index < k)
      go j size count (inl h) = inl (omega (arith, size, h))
      go j size count (inr h) = inr (omega (arith, count, h))

  append_cases : ((r : Refusal) × (o : ℕ) × AppendFault s f index out r o) ⊎ ((appended s f index out).number ≡ 0)
  unfolding appended
  append_cases = go (job s) refl
    where
      Ends : ChangeSaid → Type 0
      Ends u = ((r : Refusal) × (o : ℕ) × AppendFault s f index out r o) ⊎ (u.number ≡ 0)

      fits : (j : Job) (last : ℕ) → job s ≡ read j last → bad_figure f ≡ false → length j.parts < most_outlines → (b : Bool)
          → ltb most_bytes (length (with_outline j f)) ≡ b
          → Ends (cond b (unchanged (refusal_no Long) 0 index out) (changed_to (with_outline j f) index out))
      fits j last e good few true h =
          let size = with_long s bytes e f few in
          inl (Long, 0, append-long (job-says s e) (good-lengths f good) few (omega (arith, size, ltb-true most_bytes (length (with_outline j f)) h)))
      fits j last e good few false h =
          let size = with_long s bytes e f few in
          let short = ltb-false most_bytes (length (with_outline j f)) h in
          let back = with_back s bytes e f few good words short in
          let count = with_count s bytes e f few in
          let fine : longer s f (length j.parts) ≤ 4096 = omega (arith, size, short) in
          let room : (length out < longer s f (length j.parts)) ⊎ (length index < length j.parts + 1) → AppendFault s f index out Room 0 =
          λ x. append-room (job-says s e) (good-lengths f good) few fine x
          in
          elim (changed_cases (with_outline j f) index out back) [
            | inl (inl k) ↦ inl (Room, 0, room (inl (omega (arith, size, k))))
            | inl (inr k) ↦ inl (Room, 0, room (inr (omega (arith, count, k))))
            | inr z ↦ inr z
          ]

      full : (j : Job) (last : ℕ) → job s ≡ read j last → bad_figure f ≡ false → (b : Bool) → leb most_outlines (length j.parts) ≡ b
          → Ends (cond b (unchanged (refusal_no Full) 0 index out) (cond (ltb most_bytes (length (with_outline j f))) (unchanged (refusal_no Long) 0 index out) (changed_to (with_outline j f) index out)))
      full j last e good true h = inl (Full, 0, append-full (job-says s e) (good-lengths f good) (leb-true most_outlines (length j.parts) h))
      full j last e good false h =
          fits j last e good (leb-false most_outlines (length j.parts) h) (ltb most_bytes (length (with_outline j f))) refl

      lengths : (j : Job) (last : ℕ) → job s ≡ read j last → (b : Bool) → bad_figure f ≡ b
          → Ends (cond b (unchanged (refusal_no Length) 0 index out) (cond (leb most_outlines (length j.parts)) (unchanged (refusal_no Full) 0 index out) (cond (ltb most_bytes (length (with_outline j f))) (unchanged (refusal_no Long) 0 index out) (changed_to (with_outline j f) index out))))
      lengths j last e true h = inl (Length, 0, append-lengths (job-says s e) (bad_lengths f h))
      lengths j last e false h = full j last e h (leb most_outlines (length j.parts)) refl

      go : (u : Reading Job) → job s ≡ u → Ends (appended_to f index out u)
      go (fault r o) e = inl (r, o, not-read ((job_exactly s r o).0 e))
      go (read j last) e = lengths j last e (bad_figure f) refl

  pub append_exactly : (r : Refusal) (o : ℕ)
      → (((appended s f index out).number ≡ refusal_no r) × ((appended s f index out).offset ≡ o)) ↔ AppendFault s f index out r o
  append_exactly =
      exactly (λ (u : ChangeSaid). u.number) (λ (u : ChangeSaid). u.offset) (λ n o. unchanged n o index out) (λ n o. refl) (λ n o. refl)
      (AppendFault s f index out) (appended s f index out) append_law append_cases

  pub append-accepted : ((appended s f index out).number ≡ 0) ↔ ((r : Refusal) (o : ℕ) → AppendFault s f index out r o → ⊥)
  append-accepted =
      accepted (λ (u : ChangeSaid). u.number) (λ (u : ChangeSaid). u.offset) (λ n o. unchanged n o index out) (λ n o. refl) (λ n o. refl)
      (AppendFault s f index out) (appended s f index out) append_law append_cases

  pub append-keeps : (r : Refusal) → (appended s f index out).number ≡ refusal_no r
      → appended s f index out ≡ unchanged (refusal_no r) (appended s f index out).offset index out
  append-keeps =
      keeps (λ (u : ChangeSaid). u.number) (λ (u : ChangeSaid). u.offset) (λ n o. unchanged n o index out) (λ n o. refl) (λ n o. refl)
      (AppendFault s f index out) (appended s f index out) append_law append_cases

-- Removing

module _ (s : List ℕ) (bytes : AllBytes s) (k : ℕ) (index out : List ℕ) where
  remove_law : (r : Refusal) (o : ℕ) → RemoveFault s k index out r o → removed s k index out ≡ unchanged (refusal_no r) o index out
  unfolding removed
  remove_law r o (not_taken h) = ap (removed_from k index out) ((job_exactly s r o).1 h)
  remove_law r o (remove_missing says past) =
      let j = says-job s says in
      let p : removed_from k index out (read j.0 (length s)) ≡ unchanged (refusal_no Missing) 0 index out =
      simp (le-ltb k (length j.0.parts) (omega (arith, j.2)))
      in ap (removed_from k index out) j.1 ∙ p
  remove_law r o (remove_room {t} {w} {n} says here room) =
      let j = says-job s says in
      let inside : k < length j.0.parts = omega (arith, j.2) in
      let size = without-long s bytes j.1 k inside ∙ ap (shorter s k) j.2 in
      let back = without_back s bytes j.1 k inside in
      let p : removed_from k index out (read j.0 (length s)) ≡ changed_to (without_outline j.0 k) index out =
      simp (lt-ltb k (length j.0.parts) inside)
      in
      let count = without-count s bytes j.1 k inside ∙ ap (λ m. m - 1) j.2 in
      ap (removed_from k index out) j.1 ∙ p ∙ changed_room (without_outline j.0 k) index out back (go j.0 size count room)
    where
      go : (j : Job) {m : ℕ} → length (without_outline j k) ≡ shorter s k n → m ≡ n - 1 → (length out < shorter s k n) ⊎ (length index < n - 1)
          → (length out < length (without_outline j k)) ⊎ (length index < m)
      go j size count (inl h) = inl (omega (arith, size, h))
      go j size count (inr h) = inr (omega (arith, count, h))

  remove_cases : ((r : Refusal) × (o : ℕ) × RemoveFault s k index out r o) ⊎ ((removed s k index out).number ≡ 0)
  unfolding removed
  remove_cases = go (job s) refl
    where
      Ends : ChangeSaid → Type 0
      Ends u = ((r : Refusal) × (o : ℕ) × RemoveFault s k index out r o) ⊎ (u.number ≡ 0)

      here : (j : Job) (last : ℕ) → job s ≡ read j last → (b : Bool) → ltb k (length j.parts) ≡ b
          → Ends (cond b (changed_to (without_outline j k) index out) (unchanged (refusal_no Missing) 0 index out))
      here j last e false h = inl (Missing, 0, remove_missing (job-says s e) (ltb-false k (length j.parts) h))
      here j last e true h =
          let inside = ltb-true k (length j.parts) h in
          let size = without-long s bytes e k inside in
          let back = without_back s bytes e k inside in
          let count = without-count s bytes e k inside in
          let room : (length out < shorter s k (length j.parts)) ⊎ (length index < length j.parts - 1) → RemoveFault s k index out Room 0 =
          λ x. remove_room (job-says s e) inside x
          in
          elim (changed_cases (without_outline j k) index out back) [
            | inl (inl l) ↦ inl (Room, 0, room (inl (omega (arith, size, l))))
            | inl (inr l) ↦ inl (Room, 0, room (inr (omega (arith, count, l))))
            | inr z ↦ inr z
          ]

      go : (u : Reading Job) → job s ≡ u → Ends (removed_from k index out u)
      go (fault r o) e = inl (r, o, not_taken ((job_exactly s r o).0 e))
      go (read j last) e = here j last e (ltb k (length j.parts)) refl

  pub remove_exactly : (r : Refusal) (o : ℕ)
      → (((removed s k index out).number ≡ refusal_no r) × ((removed s k index out).offset ≡ o)) ↔ RemoveFault s k index out r o
  remove_exactly =
      exactly (λ (u : ChangeSaid). u.number) (λ (u : ChangeSaid). u.offset) (λ n o. unchanged n o index out) (λ n o. refl) (λ n o. refl)
      (RemoveFault s k index out) (removed s k index out) remove_law remove_cases

  pub remove_accepted : ((removed s k index out).number ≡ 0) ↔ ((r : Refusal) (o : ℕ) → RemoveFault s k index out r o → ⊥)
  remove_accepted =
      accepted (λ (u : ChangeSaid). u.number) (λ (u : ChangeSaid). u.offset) (λ n o. unchanged n o index out) (λ n o. refl) (λ n o. refl)
      (RemoveFault s k index out) (removed s k index out) remove_law remove_cases

  pub remove_keeps : (r : Refusal) → (removed s k index out).number ≡ refusal_no r
      → removed s k index out ≡ unchanged (refusal_no r) (removed s k index out).offset index out
  remove_keeps =
      keeps (λ (u : ChangeSaid). u.number) (λ (u : ChangeSaid). u.offset) (λ n o. unchanged n o index out) (λ n o. refl) (λ n o. refl)
      (RemoveFault s k index out) (removed s k index out) remove_law remove_cases

-- Picking

module _ (s : List ℕ) (at : ℕ) where
  part-follow : past (part s at) ≡ follow s figure_wants at
  part-follow = part-past s at ∙ (unfold follow one in sym (then-end (past (outline s at))))

  pub unread_exactly : (r : Refusal) (o : ℕ) → (part s at ≡ fault r o) ↔ Unread s at r o
  unfolding Unread
  unread_exactly r o = (
    (λ e.
        subst (FollowTold s figure_wants at) (sym part-follow ∙ ap past e) (follow-told s (suc (length s)) figure_wants at (omega arith))),
    λ h. past-fault (part s at) (sym (part-follow ∙ legal_same s h.3 ∙ bad_follow s h.1 h.2 h.0 r o h.4)),
  )

module _ (s index : List ℕ) (n k : ℕ) where
  pick_law : (r : Refusal) (o : ℕ) → PickFault s index n k r o → picked s index n k ≡ told (refusal_no r) o []
  unfolding picked found
  pick_law r o (pick_long h) = simp (lt-ltb most_bytes (length s) h)
  pick_law r o (pick_missing short (inl h)) = simp (le-ltb most_bytes (length s) short, le-ltb k n h)
  pick_law r o (pick_missing short (inr h)) = go (ltb k n)
    where
      go : (b : Bool) → picked_by s (cond (ltb most_bytes (length s)) (fault Long 0) (cond (b && ltb k (length index)) (part s (get_or index k 0)) (fault Missing 0)))
          ≡ told (refusal_no Missing) 0 []
      go true = simp (le-ltb most_bytes (length s) short, le-ltb k (length index) h)
      go false = simp (le-ltb most_bytes (length s) short)
  pick_law r o (pick_unread short count room h) =
      let p : picked_by s (cond (ltb most_bytes (length s)) (fault Long 0) (cond (ltb k n && ltb k (length index)) (part s (get_or index k 0)) (fault Missing 0)))
      ≡ picked_by s (part s (get_or index k 0)) =
      simp (le-ltb most_bytes (length s) short, lt-ltb k n count, lt-ltb k (length index) room)
      in p ∙ ap (picked_by s) ((unread_exactly s (get_or index k 0) r o).1 h)

  pick_cases : ((r : Refusal) × (o : ℕ) × PickFault s index n k r o) ⊎ ((picked s index n k).number ≡ 0)
  unfolding picked found
  pick_cases = go (ltb most_bytes (length s)) refl (ltb k n) refl (ltb k (length index)) refl (part s (get_or index k 0)) refl
    where
      go : (a : Bool) → ltb most_bytes (length s) ≡ a → (b : Bool) → ltb k n ≡ b → (d : Bool) → ltb k (length index) ≡ d
          → (u : Reading Part) → part s (get_or index k 0) ≡ u
          → ((r : Refusal) × (o : ℕ) × PickFault s index n k r o) ⊎ ((picked_by s (cond a (fault Long 0) (cond (b && d) u (fault Missing 0)))).number ≡ 0)
      go true x b y d z u e = inl (Long, 0, pick_long (ltb-true most_bytes (length s) x))
      go false x false y d z u e = inl (Missing, 0, pick_missing (ltb-false most_bytes (length s) x) (inl (ltb-false k n y)))
      go false x true y false z u e = inl (Missing, 0, pick_missing (ltb-false most_bytes (length s) x) (inr (ltb-false k (length index) z)))
      go false x true y true z (read p next) e = inr refl
      go false x true y true z (fault r o) e =
          inl (
            r,
            o,
            pick_unread (ltb-false most_bytes (length s) x) (ltb-true k n y) (ltb-true k (length index) z) ((unread_exactly s (get_or index k 0) r o).0 e),
          )

  pub pick_exactly : (r : Refusal) (o : ℕ) → (((picked s index n k).number ≡ refusal_no r) × ((picked s index n k).offset ≡ o)) ↔ PickFault s index n k r o
  pick_exactly =
      exactly (λ (u : TakeSaid). u.number) (λ (u : TakeSaid). u.offset) (λ n o. told n o []) (λ n o. refl) (λ n o. refl)
      (PickFault s index n k) (picked s index n k) pick_law pick_cases

  pub pick_accepted : ((picked s index n k).number ≡ 0) ↔ ((r : Refusal) (o : ℕ) → PickFault s index n k r o → ⊥)
  pick_accepted =
      accepted (λ (u : TakeSaid). u.number) (λ (u : TakeSaid). u.offset) (λ n o. told n o []) (λ n o. refl) (λ n o. refl)
      (PickFault s index n k) (picked s index n k) pick_law pick_cases

  pub pick_empty : (r : Refusal) → (picked s index n k).number ≡ refusal_no r → picked s index n k ≡ told (refusal_no r) (picked s index n k).offset []
  pick_empty =
      keeps (λ (u : TakeSaid). u.number) (λ (u : TakeSaid). u.offset) (λ n o. told n o []) (λ n o. refl) (λ n o. refl)
      (PickFault s index n k) (picked s index n k) pick_law pick_cases
