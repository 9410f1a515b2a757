-- Laws of what the calls on job bytes promise. Assumes nothing.
--
--   whole-fault, whole-read == what `whole` is, by what the job is
--   fault-whole, read_whole == what the job is, by what `whole` is
--   job-said         == threshold, weight and K of a job are its header's
--   checked-fault, checked-read == checking a job, by `whole`
--   located-before, located-fault, located-part == where a figure stands, by those before it and by itself
--   located-within   == it stands within the bytes
--   taken-fault, taken_missing, taken_never, taken-part == taking figure k, by `whole` and `located`
use Prim.Native.Nat.{ℕ, ◌-◌, ◌<◌, ◌≤◌}
use mathlib.Core.Path.{◌≡◌, ◌∙◌, refl, sym, ap, ap₂}
use mathlib.Core.List.{List, []}
use native.Mathlib.Omega.{arith}
use lib.ListN.{length, get_or, take, drop}
use borrow.Author.Tests.{lt-ltb, le-ltb}
use Rattle.refusal.specs.declared.Refusal.{Refusal}
use Rattle.refusal.specs.declared.Refusal.TheVariants.{Missing}
use Rattle.refusal.specs.Refusals.{refusal_no}
use Rattle.number.specs.Reading.{Reading, read, fault, and_then, past}
use Rattle.number.proofs.Number.{apart}
use Rattle.number.proofs.Reading.{then_same, then_inv, past-fault, past-read, many-length, many-nth}
use Rattle.job.specs.Job.{outline, Part, part, outlines, header, Header, job, Job}
use Rattle.job.specs.Steps.{whole, located}
use Rattle.job.specs.Calls.{CheckSaid, job_said, checked, told, part_bytes, no_part, part_taken, taken}
use Rattle.job.proofs.Job.{job-whole, part-read, outline-onward}

module _ (s : List ℕ) where
  pub whole-fault : {r : Refusal} {p : ℕ} → job s ≡ fault r p → fault r p ≡ whole s
  unfolding whole
  whole-fault e = then_same (λ j last. header s) (sym e)

  pub whole-read : {j : Job} {last next : ℕ} {h : Header} → job s ≡ read j last → read h next ≡ header s → read h next ≡ whole s
  unfolding whole
  whole-read e f = f ∙ then_same (λ j last. header s) (sym e)

  -- the job, by what `whole` tells of it
  pub fault-whole : {r : Refusal} {p : ℕ} → fault r p ≡ whole s → job s ≡ fault r p
  unfolding whole
  fault-whole {r} {p} e = go (job s) refl e
    where
      go : (u : Reading Job) → job s ≡ u → fault r p ≡ and_then u (λ j last. header s) → u ≡ fault r p
      go (read j last) q f = absurd (apart (sym (f ∙ (job-whole s q).header_is)))
      go (fault t k) q f = let a : t ≡ r = cc in let b : k ≡ p = cc in ap₂ fault a b

  pub read_whole : {h : Header} {next : ℕ} → read h next ≡ whole s
      → (j : Job) × (last : ℕ) × (job s ≡ read j last) × (header s ≡ read h next)
  unfolding whole
  read_whole {h} {next} e = go (job s) refl e
    where
      go : (u : Reading Job) → job s ≡ u → read h next ≡ and_then u (λ j last. header s)
          → (j : Job) × (last : ℕ) × (u ≡ read j last) × (header s ≡ read h next)
      go (read j last) q f = (j, last, refl, sym f)
      go (fault t k) q f = absurd (apart f)

  -- threshold, weight and K are the header's
  pub job-said : {j : Job} {h : Header} {last next : ℕ} → job s ≡ read j last → header s ≡ read h next
      → (j.threshold ≡ h.threshold) × (j.weight ≡ h.weight) × (length j.parts ≡ h.count)
  unfolding outlines
  job-said {j} {h} e f =
      let w = job-whole s e in
      let g = sym w.header_is ∙ f in
      let z : w.head ≡ h = cc in (
        w.threshold-is ∙ ap (λ (k : Header). k.threshold) z,
        w.weight_is ∙ ap (λ (k : Header). k.weight) z,
        many-length (part s) w.head.count w.first w.parts_are ∙ ap (λ (k : Header). k.count) z,
      )

  pub checked-fault : {r : Refusal} {p : ℕ} → fault r p ≡ whole s
      → record { number = refusal_no r; threshold = 0; weight = 0; outlines = 0; offset = p } ≡ checked s
  unfolding checked
  checked-fault e = sym (ap job_said (fault-whole e))

  pub checked-read : {h : Header} {next : ℕ} → read h next ≡ whole s
      → record { number = 0; threshold = h.threshold; weight = h.weight; outlines = h.count; offset = 0 } ≡ checked s
  unfolding checked
  checked-read {h} {next} e = go (read_whole e)
    where
      said : ℕ → ℕ → ℕ → CheckSaid
      said t w k = record { number = 0; threshold = t; weight = w; outlines = k; offset = 0 }

      go : (j : Job) × (last : ℕ) × (job s ≡ read j last) × (header s ≡ read h next) → said h.threshold h.weight h.count ≡ job_said (job s)
      go (j, last, q, f) =
          let k = job-said q f in
          ap₂ (λ t w. said t w h.count) (sym k.0) (sym k.1) ∙ ap (said j.threshold j.weight) (sym k.2) ∙ sym (ap job_said q)

-- taking figure k

module _ (s : List ℕ) (k at : ℕ) where
  ended : ℕ → List (List ℕ) → ℕ → Reading ℕ
  ended start ls end = read start end

  begun : List Part → ℕ → Reading ℕ
  begun ps start = and_then (outline s start) (ended start)

  pub located-before : {r : Refusal} {p : ℕ} → fault r p ≡ past (outlines s k at) → fault r p ≡ located s k at
  unfolding located begun ended
  located-before e = then_same begun (sym (past-fault (outlines s k at) e))

  module _ {start : ℕ} (e : read tt start ≡ past (outlines s k at)) where
    pub located-fault : {r : Refusal} {p : ℕ} → fault r p ≡ past (outline s start) → fault r p ≡ located s k at
    unfolding located begun ended
    located-fault f =
        let u = past-read (outlines s k at) e in
        then_same (ended start) (sym (past-fault (outline s start) f)) ∙ then_same begun (sym u.1)

    pub located-part : {end : ℕ} → read tt end ≡ past (outline s start) → read start end ≡ located s k at
    unfolding located begun ended
    located-part f =
        let u = past-read (outlines s k at) e in
        let w = past-read (outline s start) f in
        then_same (ended start) (sym w.1) ∙ then_same begun (sym u.1)

  pub located-within : {start end : ℕ} → read start end ≡ located s k at → (start ≤ end) × (end ≤ length s)
  unfolding located
  located-within {start} {end} e =
      let i = then_inv (λ ps start. and_then (outline s start) (λ l end. read start end)) (outlines s k at) (sym e) in
      let j = then_inv (λ l end. read i.1 end) (outline s i.1) i.3 in
      let h = outline-onward s i.1 j.2 in
      let a : i.1 ≡ start = cc in
      let b : j.1 ≡ end = cc in
      omega arith

module _ (s : List ℕ) (k : ℕ) where
  pub taken-fault : {r : Refusal} {p n : ℕ} → fault r p ≡ whole s → n ≡ refusal_no r → told n p [] ≡ taken s k
  unfolding taken
  taken-fault {r} {p} e f = ap (λ n. told n p []) f ∙ sym (ap (part_taken s k) (fault-whole s e))

  module _ {h : Header} {next : ℕ} (e : read h next ≡ whole s) where
    pub taken_missing : {n : ℕ} → h.count ≤ k → n ≡ refusal_no Missing → told n 0 [] ≡ taken s k
    unfolding taken
    taken_missing {n} c f =
        let w = read_whole s e in
        let j = job-said s w.2 w.3 in
        let p : told n 0 [] ≡ part_taken s k (read w.0 w.1) =
        ap (λ m. told m 0 []) f ∙ simp (le-ltb k (length w.0.parts) (omega arith))
        in p ∙ sym (ap (part_taken s k) w.2)

    -- figure k of a sound job stands where it is looked for
    pub located-nth : k < h.count → (j : Job) × (last : ℕ) × (job s ≡ read j last) × (k < length j.parts)
        × (located s k next ≡ read (get_or j.parts k no_part).start (get_or j.parts k no_part).end)
    unfolding outlines
    located-nth c =
        let w = read_whole s e in
        let q = job-whole s w.2 in
        let same = sym q.header_is ∙ w.3 in
        let a : q.head ≡ h = cc in
        let b : q.first ≡ next = cc in
        let all : outlines s h.count next ≡ read w.0.parts w.1 =
        ap₂ (λ (x : Header) y. outlines s x.count y) (sym a) (sym b) ∙ q.parts_are
        in
        let n = many-nth (part s) h.count next k no_part all c in
        let r = part-read s n.1 n.4 in
        let u : outlines s k next ≡ read n.0 n.1 = n.3 in (
          w.0,
          w.1,
          w.2,
          omega (arith, many-length (part s) h.count next all),
          sym (located-part s k next (sym (ap past u)) (sym (ap past r.0))) ∙ ap₂ read (sym r.1) (sym r.2),
        )

    pub taken_never : {r : Refusal} {p : ℕ} → k < h.count → fault r p ≡ located s k next → ⊥
    taken_never c f = apart (sym (f ∙ (located-nth c).4))

    pub taken-part : {start end : ℕ} → k < h.count → read start end ≡ located s k next
        → told 0 0 (take (end - start) (drop start s)) ≡ taken s k
    unfolding taken
    taken-part {start} {end} c f = go (located-nth c)
      where
        go : (j : Job) × (last : ℕ) × (job s ≡ read j last) × (k < length j.parts)
            × (located s k next ≡ read (get_or j.parts k no_part).start (get_or j.parts k no_part).end)
            → told 0 0 (take (end - start) (drop start s)) ≡ part_taken s k (job s)
        go (j, last, q, room, g) =
            let z = f ∙ g in
            let a : start ≡ (get_or j.parts k no_part).start = cc in
            let b : end ≡ (get_or j.parts k no_part).end = cc in
            let p : told 0 0 (part_bytes s (get_or j.parts k no_part)) ≡ part_taken s k (read j last) = simp lt-ltb in
            ap₂ (λ x y. told 0 0 (take (y - x) (drop x s))) a b ∙ p ∙ sym (ap (part_taken s k) q)
