-- The reading calls are refused exactly when the scope says so, and what they hold then. Assumes nothing.
--
--   body-follow, job-past, job_exactly == a job has a fault exactly when `JobFault` says so
--   fault-one        == and that is its only one
--   check_exactly    == checking tells the refusal r with the offset o exactly when that is the job's fault
--   check_zeros      == and then nothing but zeros beside them
--   check_accepted   == it tells 0 exactly when the job has no fault
--   check_says       == and then the job's first three numbers, and the offset 0
--   job-says, says_same, says-job == what an accepted job says, that it says one thing, and that it is accepted
--   take_exactly     == taking tells the job's fault, else 13 exactly when k is not below K
--   take-empty       == and then the part is empty
--   take-accepted    == it tells 0 exactly when neither holds; the part is then that of `said-taken`
--   unpack_exactly   == unpacking tells the fault of the part, else 14 exactly when one of the two lists is too short for the figure
--   unpack_keeps     == and then both lists are as they came in, and zeros stand beside its number and offset
--   unpack_accepted, unpack_fills == it tells 0 exactly when neither holds; the figure then stands at the front of both lists, and the
--                       rest is as it came in
use Prim.Native.Nat.{ℕ, suc, ◌+◌, ◌<◌, ◌≤◌}
use mathlib.Core.Path.{◌≡◌, ◌∙◌, refl, sym, ap, ap₂, subst}
use mathlib.Core.Logic.{◌⊎◌, ◌↔◌, inl, inr, ⊎_elim}
use mathlib.Core.List.{List, []}
use mathlib.Core.Bool.{Bool, true, false, cond}
use native.Mathlib.Omega.{arith}
use lib.Dec.{ltb}
use lib.ListN.{length, get_or}
use lib.Seq.{take_all}
use borrow.Author.Tests.{le-ltb, ltb-true, ltb-false}
use Rattle.refusal.specs.declared.Refusal.{Refusal}
use Rattle.refusal.specs.declared.Refusal.TheVariants.{Extra, Long, Missing, Room}
use Rattle.refusal.specs.Refusals.{refusal_no}
use Rattle.refusal.proofs.Refusals.{refusal-one, never}
use Rattle.number.specs.Reading.{Reading, read, fault, and_then, past}
use Rattle.number.specs.Number.{number}
use Rattle.number.specs.Faults.{Sound}
use Rattle.number.proofs.Number.{cond_cases, sound_exactly}
use Rattle.number.proofs.Reading.{then-end, then_inv, past-then, past-fault, past-read, many-length}
use Rattle.number.proofs.Bytes.{AllBytes, Stands, stands-whole, number-onward}
use Rattle.rule.specs.Rules.{limit}
use Rattle.figure.specs.Figure.{Figure}
use Rattle.job.specs.Bytes.{figure_bytes}
use Rattle.job.specs.Job.{most_outlines, value, part, outlines, Header, header, filled, body, Job, job, outline, figure_of}
use Rattle.job.specs.Calls.{job_said, checked, TakeSaid, told, part_bytes, no_part, part_taken, taken, UnpackSaid, unfilled, filled_by, part_unpacked, unpacked}
use Rattle.job.specs.Faults.{Want, up_to, count, job_wants, figure_wants, Legal, none, more, FaultAt, JobFault, JobSays, TakeFault, Holds, UnpackFault, filled_with}
use Rattle.job.proofs.Bounds.{some-lt, none_lt}
use Rattle.job.proofs.Job.{counted, weighed, heard, value_read, job-long, job-whole, filled_inv, filled-read}
use Rattle.job.proofs.RoundTrip.{outline-back, outline-only}
use Rattle.job.proofs.Wanted.{one, follow, follow-none, FollowTold, follow-told, legal_same, fault_exactly}

module _ {A : Type 0} (s : List ℕ) where
  past-filled : (u : Reading A) → past (filled s u) ≡ filled s (past u)
  unfolding filled
  past-filled (fault r p) = refl
  past-filled (read a last) = go (ltb last (length s))
    where
      go : (b : Bool) → past (cond b (fault Extra last) (read a last)) ≡ cond b (fault Extra last) (read tt last)
      go true = refl
      go false = refl

-- The job

module _ (s : List ℕ) where
  abbrev parted : Header → ℕ → Reading Job
  parted h next =
      and_then (outlines s h.count next) (λ ps last. read (record { threshold = h.threshold; weight = h.weight; parts = ps }) last)

  body-follow : past (body s) ≡ follow s job_wants 0
  unfolding body header follow one
  body-follow = first (value s 0 limit 0)
    where
      last : (t w k next : ℕ) → past (parted (record { threshold = t; weight = w; count = k }) next)
          ≡ and_then (past (outlines s k next)) (λ x n. read tt n)
      last t w k next =
          past-then {B = Job} (λ ps. record { threshold = t; weight = w; parts = ps }) (outlines s k next) ∙ sym (then-end (past (outlines s k next)))

      third : (t w : ℕ) (u : Reading ℕ) → past (and_then (and_then u (counted s t w)) parted)
          ≡ and_then (and_then u (λ k next. past (outlines s k next))) (λ x n. read tt n)
      third t w (read k next) = last t w k next
      third t w (fault r p) = refl

      second : (t : ℕ) (u : Reading ℕ) → past (and_then (and_then u (weighed s t)) parted)
          ≡ and_then (past u) (λ x q. and_then (one s count q) (λ y n. read tt n))
      second t (read w q) = third t w (value s 0 most_outlines q)
      second t (fault r p) = refl

      first : (u : Reading ℕ) → past (and_then (and_then u (heard s)) parted)
          ≡ and_then (past u) (λ z p. and_then (one s (up_to 1000) p) (λ x q. and_then (one s count q) (λ y n. read tt n)))
      first (read t p) = second t (value s 0 limit p)
      first (fault r p) = refl

  job-past : past (job s) ≡ cond (ltb 4096 (length s)) (fault Long 0) (filled s (follow s job_wants 0))
  unfolding job
  job-past = go (ltb 4096 (length s))
    where
      go : (b : Bool) → past (cond b (fault Long 0) (filled s (body s))) ≡ cond b (fault Long 0) (filled s (follow s job_wants 0))
      go true = refl
      go false = past-filled s (body s) ∙ ap (filled s) body-follow

  pub job_exactly : (r : Refusal) (o : ℕ) → (job s ≡ fault r o) ↔ JobFault s r o
  unfolding JobFault
  job_exactly r o = ((λ e. go (ltb 4096 (length s)) refl (sym job-past ∙ ap past e)), back)
    where
      go : (b : Bool) → ltb 4096 (length s) ≡ b → cond b (fault Long 0) (filled s (follow s job_wants 0)) ≡ fault r o
          → ((r ≡ Long) × (o ≡ 0) × (4096 < length s)) ⊎ ((length s ≤ 4096) × FaultAt s job_wants r o)
      go true h e =
          let a : Long ≡ r = cc in
          let b : ◌≡◌ {A = ℕ} 0 o = cc in
          inl (sym a, sym b, ltb-true 4096 (length s) h)
      go false h e = inr (ltb-false 4096 (length s) h, (fault_exactly s job_wants r o).0 e)

      back : ((r ≡ Long) × (o ≡ 0) × (4096 < length s)) ⊎ ((length s ≤ 4096) × FaultAt s job_wants r o) → job s ≡ fault r o
      back (inl f) = job-long s f.2 ∙ ap₂ fault (sym f.0) (sym f.1)
      back (inr f) =
          let e : past (job s) ≡ fault r o =
          job-past
          ∙ ap (λ b. cond b (fault Long 0) (filled s (follow s job_wants 0))) (le-ltb 4096 (length s) f.0)
          ∙ (fault_exactly s job_wants r o).1 f.1
          in
          past-fault (job s) (sym e)

  -- the first fault is the only one
  pub fault-one : (r t : Refusal) (o p : ℕ) → JobFault s r o → JobFault s t p → (r ≡ t) × (o ≡ p)
  fault-one r t o p f g =
      let e = sym ((job_exactly r o).1 f) ∙ (job_exactly t p).1 g in
      let a : r ≡ t = cc in
      let b : o ≡ p = cc in
      (a, b)

-- Checking

module _ (s : List ℕ) where
  check_fault : (r : Refusal) (o : ℕ) → (checked s).number ≡ refusal_no r → (checked s).offset ≡ o → job s ≡ fault r o
  unfolding checked
  check_fault r o n p = go (job s) n p
    where
      go : (u : Reading Job) → (job_said u).number ≡ refusal_no r → (job_said u).offset ≡ o → u ≡ fault r o
      go (read j last) n p = absurd (never r n)
      go (fault c q) n p = ap₂ fault (refusal-one c r n) p

  pub check_exactly : (r : Refusal) (o : ℕ) → (((checked s).number ≡ refusal_no r) × ((checked s).offset ≡ o)) ↔ JobFault s r o
  unfolding checked
  check_exactly r o = (
    (λ k. (job_exactly s r o).0 (check_fault r o k.0 k.1)),
    λ f. let e = (job_exactly s r o).1 f in
        (ap (λ u. (job_said u).number) e, ap (λ u. (job_said u).offset) e),
  )

  pub check_zeros : (r : Refusal) → (checked s).number ≡ refusal_no r
      → checked s ≡ record { number = refusal_no r; threshold = 0; weight = 0; outlines = 0; offset = (checked s).offset }
  check_zeros r n =
      unfold checked in ap job_said (check_fault r (checked s).offset n refl)

  pub check_accepted : ((checked s).number ≡ 0) ↔ ((r : Refusal) (o : ℕ) → JobFault s r o → ⊥)
  unfolding checked
  check_accepted = (
    (λ n r o f. never r (sym n ∙ ap (λ u. (job_said u).number) ((job_exactly s r o).1 f))),
    λ f. go (job s) refl f,
  )
    where
      go : (u : Reading Job) → job s ≡ u → ((r : Refusal) (o : ℕ) → JobFault s r o → ⊥) → (job_said u).number ≡ 0
      go (read j last) e f = refl
      go (fault r o) e f = absurd (f r o ((job_exactly s r o).0 e))

-- What an accepted job says

module _ (s : List ℕ) where
  legal_within : {at last : ℕ} {ws end : List Want} → Legal s at ws last end → at ≤ length s → last ≤ length s
  legal_within none h = h
  legal_within (more {at} {v} {next} k a rest) h = legal_within rest (number-onward s at ((sound_exactly s at v next).1 k)).1

  job_legal : {j : Job} {last : ℕ} → job s ≡ read j last → length s ≤ 4096 → Legal s 0 job_wants (length s) []
  job_legal {j} {last} e short =
      let f : filled s (follow s job_wants 0) ≡ read tt last =
      ap (λ b. cond b (fault Long 0) (filled s (follow s job_wants 0))) (sym (le-ltb 4096 (length s) short)) ∙ sym (job-past s) ∙ ap past e
      in
      let i = filled_inv s (follow s job_wants 0) f in
      let l : Legal s 0 job_wants last [] = subst (FollowTold s job_wants 0) i.0 (follow-told s (suc (length s)) job_wants 0 (omega arith)) in
      let q : last ≡ length s = omega (arith, i.1, legal_within l (omega arith)) in
      subst (λ m. Legal s 0 job_wants m []) q l

  pub job-says : {j : Job} {last : ℕ} → job s ≡ read j last → JobSays s j.threshold j.weight (length j.parts)
  unfolding header outlines
  job-says {j} {last} e =
      let g = job-whole s e in
      let h : Header = g.head in
      let a = then_inv (heard s) (value s 0 limit 0) g.header_is in
      let b = then_inv (weighed s a.0) (value s 0 limit a.1) a.3 in
      let c = then_inv (counted s a.0 b.0) (value s 0 most_outlines b.1) b.3 in
      let made : Header = record { threshold = a.0; weight = b.0; count = c.0 } in
      let z : made ≡ h = cc in
      let n : h.count ≡ length j.parts = sym (many-length (part s) h.count g.first g.parts_are) in
      record {
        short = g.short;
        all = job_legal e g.short;
        after-threshold = a.1;
        after-weight = b.1;
        after-count = c.1;
        threshold =
            subst (λ t. Sound s 0 t a.1) (ap (λ (k : Header). k.threshold) z ∙ sym g.threshold-is)
            ((sound_exactly s 0 a.0 a.1).0 (value_read s 0 limit 0 a.2).0);
        weight =
            subst (λ t. Sound s a.1 t b.1) (ap (λ (k : Header). k.weight) z ∙ sym g.weight_is)
            ((sound_exactly s a.1 b.0 b.1).0 (value_read s 0 limit a.1 b.2).0);
        count =
            subst (λ t. Sound s b.1 t c.1) (ap (λ (k : Header). k.count) z ∙ n)
            ((sound_exactly s b.1 c.0 c.1).0 (value_read s 0 most_outlines b.1 c.2).0);
      }

  sound-same : {at at' v next v' next' : ℕ} → at ≡ at' → Sound s at v next → Sound s at' v' next' → (v ≡ v') × (next ≡ next')
  sound-same {at} {at'} {v} {next} {v'} {next'} p k m =
      let e : read v next ≡ read v' next' = sym ((sound_exactly s at v next).1 k) ∙ ap (number s) p ∙ (sound_exactly s at' v' next').1 m in
      let a : v ≡ v' = cc in
      let b : next ≡ next' = cc in
      (a, b)

  -- a job says one thing
  pub says_same : {t w k t' w' k' : ℕ} → JobSays s t w k → JobSays s t' w' k' → (t ≡ t') × (w ≡ w') × (k ≡ k')
  says_same x y =
      let a = sound-same refl x.threshold y.threshold in
      let b = sound-same a.1 x.weight y.weight in
      let c = sound-same b.1 x.count y.count in
      (a.0, b.0, c.0)

  pub says-job : {t w k : ℕ} → JobSays s t w k → (j : Job) × (job s ≡ read j (length s)) × (length j.parts ≡ k)
  says-job x =
      let e : past (job s) ≡ read tt (length s) =
      job-past s
      ∙ ap (λ b. cond b (fault Long 0) (filled s (follow s job_wants 0))) (le-ltb 4096 (length s) x.short)
      ∙ ap (filled s) (legal_same s x.all ∙ follow-none s (length s))
      ∙ filled-read s (omega arith)
      in
      let j = past-read (job s) (sym e) in
      (j.0, j.1, (says_same (job-says j.1) x).2)

  pub check_says : (checked s).number ≡ 0
      → ((checked s).offset ≡ 0) × JobSays s (checked s).threshold (checked s).weight (checked s).outlines
  unfolding checked
  check_says n = go (job s) refl n
    where
      go : (u : Reading Job) → job s ≡ u → (job_said u).number ≡ 0
          → ((job_said u).offset ≡ 0) × JobSays s (job_said u).threshold (job_said u).weight (job_said u).outlines
      go (read j last) e n = (refl, job-says e)
      go (fault r o) e n = absurd (never r (sym n))

-- Taking

module _ (s : List ℕ) (k : ℕ) where
  pub take_exactly : (r : Refusal) (o : ℕ) → (((taken s k).number ≡ refusal_no r) × ((taken s k).offset ≡ o)) ↔ TakeFault s k r o
  unfolding taken TakeFault
  take_exactly r o = ((λ h. go (job s) refl h.0 h.1), back)
    where
      missing : (j : Job) (last : ℕ) → job s ≡ read j last → (b : Bool) → ltb k (length j.parts) ≡ b
          → (cond b (told 0 0 (part_bytes s (get_or j.parts k no_part))) (told (refusal_no Missing) 0 [])).number ≡ refusal_no r
          → (cond b (told 0 0 (part_bytes s (get_or j.parts k no_part))) (told (refusal_no Missing) 0 [])).offset ≡ o
          → (r ≡ Missing) × (o ≡ 0) × ((t : ℕ) × (w : ℕ) × (n : ℕ) × JobSays s t w n × (n ≤ k))
      missing j last e true h n p = absurd (never r n)
      missing j last e false h n p =
          (sym (refusal-one Missing r n), sym p, (j.threshold, j.weight, length j.parts, job-says s e, ltb-false k (length j.parts) h))

      go : (u : Reading Job) → job s ≡ u → (part_taken s k u).number ≡ refusal_no r → (part_taken s k u).offset ≡ o
          → JobFault s r o ⊎ ((r ≡ Missing) × (o ≡ 0) × ((t : ℕ) × (w : ℕ) × (n : ℕ) × JobSays s t w n × (n ≤ k)))
      go (read j last) e n p = inr (missing j last e (ltb k (length j.parts)) refl n p)
      go (fault c q) e n p = inl ((job_exactly s r o).0 (e ∙ ap₂ fault (refusal-one c r n) p))

      back : JobFault s r o ⊎ ((r ≡ Missing) × (o ≡ 0) × ((t : ℕ) × (w : ℕ) × (n : ℕ) × JobSays s t w n × (n ≤ k)))
          → ((part_taken s k (job s)).number ≡ refusal_no r) × ((part_taken s k (job s)).offset ≡ o)
      back (inl f) = let e = (job_exactly s r o).1 f in (ap (λ u. (part_taken s k u).number) e, ap (λ u. (part_taken s k u).offset) e)
      back (inr f) =
          let j = says-job s f.2.3 in
          let b : ltb k (length j.0.parts) ≡ false = le-ltb k (length j.0.parts) (omega (arith, j.2, f.2.4)) in
          let e : part_taken s k (job s) ≡ told (refusal_no Missing) 0 [] =
          ap (part_taken s k) j.1 ∙ ap (λ b. cond b (told 0 0 (part_bytes s (get_or j.0.parts k no_part))) (told (refusal_no Missing) 0 [])) b
          in
          (ap (λ (u : TakeSaid). u.number) e ∙ ap refusal_no (sym f.0), ap (λ (u : TakeSaid). u.offset) e ∙ sym f.1)

  pub take-empty : (r : Refusal) → (taken s k).number ≡ refusal_no r → (taken s k).part ≡ []
  unfolding taken
  take-empty r n = go (job s) n
    where
      pick : (b : Bool) (l : List ℕ) → (cond b (told 0 0 l) (told (refusal_no Missing) 0 [])).number ≡ refusal_no r
          → (cond b (told 0 0 l) (told (refusal_no Missing) 0 [])).part ≡ []
      pick true l n = absurd (never r n)
      pick false l n = refl

      go : (u : Reading Job) → (part_taken s k u).number ≡ refusal_no r → (part_taken s k u).part ≡ []
      go (read j last) n = pick (ltb k (length j.parts)) (part_bytes s (get_or j.parts k no_part)) n
      go (fault c q) n = refl

  pub take-accepted : ((taken s k).number ≡ 0) ↔ ((r : Refusal) (o : ℕ) → TakeFault s k r o → ⊥)
  take-accepted = ((λ n r o f. never r (sym n ∙ ((take_exactly r o).1 f).0)), λ f. go (job s) refl f)
    where
      pick : (b : Bool) (l : List ℕ) → ((r : Refusal) (o : ℕ) → (taken s k).number ≡ refusal_no r → (taken s k).offset ≡ o → ⊥)
          → taken s k ≡ cond b (told 0 0 l) (told (refusal_no Missing) 0 []) → (taken s k).number ≡ 0
      pick true l f e = ap (λ (u : TakeSaid). u.number) e
      pick false l f e = absurd (f Missing 0 (ap (λ (u : TakeSaid). u.number) e) (ap (λ (u : TakeSaid). u.offset) e))

      go : (u : Reading Job) → job s ≡ u → ((r : Refusal) (o : ℕ) → TakeFault s k r o → ⊥) → (taken s k).number ≡ 0
      go (read j last) e f =
          pick (ltb k (length j.parts)) (part_bytes s (get_or j.parts k no_part))
          (λ r o n q. f r o ((take_exactly r o).0 (n, q)))
          (unfold taken in ap (part_taken s k) e)
      go (fault r o) e f = absurd (f r o (unfold TakeFault in inl ((job_exactly s r o).0 e)))

-- Unpacking

module _ (p : List ℕ) where
  part-follow : past (filled p (outline p 0)) ≡ filled p (follow p figure_wants 0)
  part-follow = past-filled p (outline p 0) ∙ ap (filled p) (unfold follow one in sym (then-end (past (outline p 0))))

  part_exactly : (r : Refusal) (o : ℕ) → (filled p (outline p 0) ≡ fault r o) ↔ FaultAt p figure_wants r o
  part_exactly r o = (
    (λ e. (fault_exactly p figure_wants r o).0 (sym part-follow ∙ ap past e)),
    λ f. past-fault (filled p (outline p 0)) (sym (part-follow ∙ (fault_exactly p figure_wants r o).1 f)),
  )

  -- what fills the part is its figure's bytes, and back
  part-holds : AllBytes p → (ls : List (List ℕ)) {last : ℕ} → filled p (outline p 0) ≡ read ls last → Holds p ls
  part-holds bs ls e =
      let i = filled_inv p (outline p 0) e in
      let h = outline-only p bs 0 i.0 in
      record {
        bytes = sym (take_all (length (figure_bytes ls)) p (omega (arith, i.1, h.0.1))) ∙ h.0.0;
        good = h.1.good;
        places = h.1.each;
      }

  holds-part : (ls : List (List ℕ)) → Holds p ls → filled p (outline p 0) ≡ read ls (length p)
  holds-part ls h =
      let st : Stands p 0 (figure_bytes ls) = subst (Stands p 0) h.bytes (stands-whole p) in
      let n : 0 + length (figure_bytes ls) ≡ length p = omega (arith, ap length h.bytes) in
      ap (filled p) (outline-back p ls 0 (record { good = h.good; each = h.places }) st ∙ ap (read ls) n) ∙ filled-read p (omega arith)

module _ (l ns : List ℕ) (f : Figure) where
  abbrev full : UnpackSaid
  full = filled_with f l ns

  abbrev none_filled : UnpackSaid
  none_filled = unfilled (refusal_no Room) 0 l ns

  abbrev TooShort : Type 0
  TooShort = (length l < length f.numbers) ⊎ (length ns < length f.lengths)

  -- filled, or a list is too short
  abbrev Fitted : UnpackSaid → Type 0
  Fitted u = ((u ≡ full) × (TooShort → ⊥)) ⊎ ((u ≡ none_filled) × TooShort)

  room-short : Fitted (filled_by f l ns)
  unfolding filled_by
  room-short =
      cond_cases Fitted _ _ _ (λ e. inl (refl, none_lt (length f.numbers) (length l) (length f.lengths) (length ns) e))
      (λ e. inr (refl, some-lt (length f.numbers) (length l) (length f.lengths) (length ns) e))

  short-room : TooShort → filled_by f l ns ≡ none_filled
  short-room h = ⊎_elim (λ z. absurd (z.1 h)) (λ z. z.0) room-short

module _ (p l ns : List ℕ) where
  -- 14
  abbrev Else : Refusal → ℕ → Type 0
  Else r o = (r ≡ Room) × (o ≡ 0) × ((ls : List (List ℕ)) × Holds p ls × TooShort l ns (figure_of ls))

  pub unpack_exactly : AllBytes p → (r : Refusal) (o : ℕ)
      → (((unpacked p l ns).number ≡ refusal_no r) × ((unpacked p l ns).offset ≡ o)) ↔ UnpackFault p l ns r o
  unfolding unpacked UnpackFault
  unpack_exactly bs r o = ((λ h. go (filled p (outline p 0)) refl h.0 h.1), back)
    where
      short : (ls : List (List ℕ)) (last : ℕ) → filled p (outline p 0) ≡ read ls last
          → (filled_by (figure_of ls) l ns).number ≡ refusal_no r → (filled_by (figure_of ls) l ns).offset ≡ o
          → Fitted l ns (figure_of ls) (filled_by (figure_of ls) l ns)
          → Else r o
      short ls last e n q (inl z) = absurd (never r (sym (ap (λ (u : UnpackSaid). u.number) z.0) ∙ n))
      short ls last e n q (inr z) = (
        sym (refusal-one Room r (sym (ap (λ (u : UnpackSaid). u.number) z.0) ∙ n)),
        sym q ∙ ap (λ (u : UnpackSaid). u.offset) z.0,
        (ls, part-holds p bs ls e, z.1),
      )

      go : (u : Reading (List (List ℕ))) → filled p (outline p 0) ≡ u → (part_unpacked l ns u).number ≡ refusal_no r → (part_unpacked l ns u).offset ≡ o
          → FaultAt p figure_wants r o ⊎ Else r o
      go (read ls last) e n q = inr (short ls last e n q (room-short l ns (figure_of ls)))
      go (fault c m) e n q = inl ((part_exactly p r o).0 (e ∙ ap₂ fault (refusal-one c r n) q))

      back : FaultAt p figure_wants r o ⊎ Else r o
          → ((part_unpacked l ns (filled p (outline p 0))).number ≡ refusal_no r) × ((part_unpacked l ns (filled p (outline p 0))).offset ≡ o)
      back (inl f) =
          let e = (part_exactly p r o).1 f in (ap (λ u. (part_unpacked l ns u).number) e, ap (λ u. (part_unpacked l ns u).offset) e)
      back (inr f) =
          let e : part_unpacked l ns (filled p (outline p 0)) ≡ unfilled (refusal_no Room) 0 l ns =
          ap (part_unpacked l ns) (holds-part p f.2.0 f.2.1) ∙ short-room l ns (figure_of f.2.0) f.2.2
          in
          (ap (λ (u : UnpackSaid). u.number) e ∙ ap refusal_no (sym f.0), ap (λ (u : UnpackSaid). u.offset) e ∙ sym f.1)

  -- without a fault both lists are filled
  unpack_none : AllBytes p → ((r : Refusal) (o : ℕ) → UnpackFault p l ns r o → ⊥)
      → (ls : List (List ℕ)) × Holds p ls × (unpacked p l ns ≡ filled_with (figure_of ls) l ns)
  unpack_none bs f = go (filled p (outline p 0)) refl
    where
      fits : (ls : List (List ℕ)) (last : ℕ) → filled p (outline p 0) ≡ read ls last
          → Fitted l ns (figure_of ls) (filled_by (figure_of ls) l ns)
          → (ls : List (List ℕ)) × Holds p ls × (unpacked p l ns ≡ filled_with (figure_of ls) l ns)
      fits ls last e (inl z) = (ls, part-holds p bs ls e, unfold unpacked in ap (part_unpacked l ns) e ∙ z.0)
      fits ls last e (inr z) = absurd (f Room 0 (unfold UnpackFault in inr (refl, refl, (ls, part-holds p bs ls e, z.1))))

      go : (u : Reading (List (List ℕ))) → filled p (outline p 0) ≡ u
          → (ls : List (List ℕ)) × Holds p ls × (unpacked p l ns ≡ filled_with (figure_of ls) l ns)
      go (read ls last) e = fits ls last e (room-short l ns (figure_of ls))
      go (fault r o) e = absurd (f r o (unfold UnpackFault in inl ((part_exactly p r o).0 e)))

  pub unpack_accepted : AllBytes p → ((unpacked p l ns).number ≡ 0) ↔ ((r : Refusal) (o : ℕ) → UnpackFault p l ns r o → ⊥)
  unpack_accepted bs = (
    (λ n r o f. never r (sym n ∙ ((unpack_exactly bs r o).1 f).0)),
    λ f. let k = unpack_none bs f in
        ap (λ (u : UnpackSaid). u.number) k.2,
  )

  pub unpack_fills : AllBytes p → (unpacked p l ns).number ≡ 0
      → (ls : List (List ℕ)) × Holds p ls × (unpacked p l ns ≡ filled_with (figure_of ls) l ns)
  unpack_fills bs n = unpack_none bs ((unpack_accepted bs).0 n)

  pub unpack_keeps : (r : Refusal) → (unpacked p l ns).number ≡ refusal_no r
      → unpacked p l ns ≡ unfilled (refusal_no r) (unpacked p l ns).offset l ns
  unfolding unpacked
  unpack_keeps r n = go (filled p (outline p 0)) n
    where
      short : (f : Figure) → (filled_by f l ns).number ≡ refusal_no r
          → Fitted l ns f (filled_by f l ns)
          → filled_by f l ns ≡ unfilled (refusal_no r) (filled_by f l ns).offset l ns
      short f n (inl z) = absurd (never r (sym (ap (λ (u : UnpackSaid). u.number) z.0) ∙ n))
      short f n (inr z) =
          z.0
          ∙ ap₂ (λ m q. unfilled m q l ns) (sym (ap (λ (u : UnpackSaid). u.number) z.0) ∙ n) (sym (ap (λ (u : UnpackSaid). u.offset) z.0))

      go : (u : Reading (List (List ℕ))) → (part_unpacked l ns u).number ≡ refusal_no r
          → part_unpacked l ns u ≡ unfilled (refusal_no r) (part_unpacked l ns u).offset l ns
      go (read ls last) n = short (figure_of ls) n (room-short l ns (figure_of ls))
      go (fault c m) n = ap (λ k. unfilled k m l ns) n
