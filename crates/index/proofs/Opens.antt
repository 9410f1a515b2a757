-- Laws of opening a job. Assumes nothing.
--
--   opened-fault     == a job that is refused
--   noted_front      == what is noted stands at the front of a list
--   opened-front     == so many are noted
--   opened-room, opened-fits == a job that is read, by the room of the index
use Prim.Native.Nat.{ℕ, ◌<◌, ◌≤◌}
use mathlib.Core.Path.{◌≡◌, ◌∙◌, sym, ap, subst}
use mathlib.Core.List.{List, ◌++◌}
use native.Mathlib.Omega.{arith}
use lib.ListN.{length, take, drop, length-map}
use lib.Seq.{sets, take_at}
use borrow.Author.Tests.{le-leb, lt-leb}
use Rattle.sum.proofs.Lists.{sets_front}
use Rattle.refusal.specs.declared.Refusal.{Refusal}
use Rattle.refusal.specs.declared.Refusal.TheVariants.{Room}
use Rattle.refusal.specs.Refusals.{refusal_no}
use Rattle.number.specs.Reading.{Reading, read, fault, past}
use Rattle.number.proofs.Reading.{past-read, many-length}
use Rattle.job.specs.Job.{most_bytes, Part, part, outlines, Header, header, Job, job}
use Rattle.job.proofs.Job.{job-made}
use Rattle.index.specs.Index.{OpenSaid, unopened, opened_by, opened}
use Rattle.index.specs.Steps.{starts_in, Noted}

-- what is noted at the front of a list that has room for it
pub noted_front : (u : Reading (List Part)) {ps : List Part} {last n : ℕ} (before after : List ℕ) → u ≡ read ps last → Noted u before after
    → length ps ≡ n → n ≤ length before → take n after ≡ starts_in ps
noted_front u {ps} {last} {n} before after e noted long room =
    let z : after ≡ sets before 0 (starts_in ps) = subst (λ (v : Reading (List Part)). Noted v before after) e noted in
    let m : length (starts_in ps) ≡ n = length-map ps (λ (p : Part). p.start) ∙ long in
    ap (take n) (z ∙ sets_front before (starts_in ps) (omega arith)) ∙ take_at (starts_in ps) _ n m

module _ (s index : List ℕ) where
  pub opened-fault : {r : Refusal} {p : ℕ} → job s ≡ fault r p → unopened (refusal_no r) p index ≡ opened s index
  unfolding opened
  opened-fault e = sym (ap (opened_by index) e)

  module _ (short : length s ≤ most_bytes) {h : Header} {next : ℕ} (head : read h next ≡ header s) {last : ℕ}
      (all : read tt last ≡ past (outlines s h.count next)) (ends : length s ≤ last) where
    parts : (ps : List Part) × (outlines s h.count next ≡ read ps last)
    parts = past-read (outlines s h.count next) all

    reads : job s ≡ read (record { threshold = h.threshold; weight = h.weight; parts = parts.0 }) last
    reads = job-made s short head parts.1 ends

    long : length parts.0 ≡ h.count
    unfolding outlines
    long = many-length (part s) h.count next parts.1

    pub opened-room : length index < h.count → unopened (refusal_no Room) 0 index ≡ opened s index
    unfolding opened
    opened-room few =
        let j : Job = record { threshold = h.threshold; weight = h.weight; parts = parts.0 } in
        let p : unopened (refusal_no Room) 0 index ≡ opened_by index (read j last) = simp (lt-leb (length parts.0) (length index) (omega (arith, long))) in
        p ∙ sym (ap (opened_by index) reads)

    pub opened-front : (before after : List ℕ) → h.count ≤ length before → Noted (outlines s h.count next) before after
        → length (take h.count after) ≡ h.count
    opened-front before after wide noted =
        ap length (noted_front (outlines s h.count next) before after parts.1 noted long wide)
        ∙ length-map parts.0 (λ (p : Part). p.start)
        ∙ long

    pub opened-fits : h.count ≤ length index → (before after done : List ℕ) → h.count ≤ length before
        → Noted (outlines s h.count next) before after → done ≡ sets index 0 (take h.count after)
        → record { number = 0; outlines = h.count; offset = 0; index = done } ≡ opened s index
    unfolding opened
    opened-fits room before after done wide noted e =
        let j : Job = record { threshold = h.threshold; weight = h.weight; parts = parts.0 } in
        let said : ℕ → List ℕ → OpenSaid = λ n l. record { number = 0; outlines = n; offset = 0; index = l } in
        let starts : List ℕ = starts_in parts.0 in
        let m : length starts ≡ length parts.0 = length-map parts.0 (λ (p : Part). p.start) in
        let front = noted_front (outlines s h.count next) before after parts.1 noted long wide in
        let p : said (length parts.0) (starts ++ drop (length parts.0) index) ≡ opened_by index (read j last) =
        simp (le-leb (length parts.0) (length index) (omega (arith, long)))
        in
        ap (said h.count) (e ∙ ap (sets index 0) front ∙ sets_front index starts (omega (arith, m, long)) ∙ ap (λ k. starts ++ drop k index) m)
        ∙ ap (λ k. said k (starts ++ drop (length parts.0) index)) (sym long)
        ∙ p
        ∙ sym (ap (opened_by index) reads)
