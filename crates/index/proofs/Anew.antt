-- Laws of writing a job anew: a header, two runs of bytes, and the index of what was written. Assumes nothing.
--
--   header-known, header_never == a header that is in range is written to nine bytes, and not refused
--   coordinates-small, figure-small == no figure has more than 222 bytes
--   figure-known, figure-refused == a figure is written to as many bytes, or refused by 2
--   parts-length, parts-put == three runs of bytes, one behind the other
--   anew_long, anew_out, anew_index, anew_never, anew_done == the ways of `changed_for`
use Prim.Native.Nat.{ℕ, ◌+◌, ◌*◌, ◌<◌, ◌≤◌}
use mathlib.Core.Path.{◌≡◌, ◌∙◌, refl, sym, ap, ap₂, subst}
use mathlib.Core.List.{List, [], ◌∷◌, ◌++◌}
use mathlib.Core.Bool.{Bool, true, false, cond}
use native.Mathlib.Omega.{arith}
use lib.Dec.{eqb}
use lib.ListN.{length, take, drop, length-append, length-map, length-take}
use lib.Seq.{sets, take_at}
use borrow.Author.Tests.{le-leb, lt-leb, lt-ltb, le-ltb}
use Rattle.std.specs.Prelude.{Ok, Err}
use Rattle.sum.specs.Sum.{join}
use Rattle.sum.proofs.Lists.{sets_append, sets_front}
use Rattle.refusal.specs.declared.Refusal.{Refusal}
use Rattle.refusal.specs.declared.Refusal.TheVariants.{Length, Long, Room}
use Rattle.refusal.specs.Refusals.{refusal_no}
use Rattle.refusal.proofs.Refusals.{refusal-some, refusal-one}
use Rattle.rule.specs.Rules.{limit, in_range}
use Rattle.figure.specs.Figure.{Figure, share, bad_figure}
use Rattle.figure.proofs.Fault.{rings-good}
use Rattle.number.specs.Reading.{Reading, read, fault, past}
use Rattle.number.specs.Number.{number_bytes}
use Rattle.number.proofs.Number.{apart}
use Rattle.number.proofs.Bytes.{bytes-length, stands-front, stands-whole}
use Rattle.job.specs.Bytes.{coordinate_bytes, header_bytes, ring_bytes, figure_bytes}
use Rattle.job.specs.Job.{most_bytes, most_outlines, Part, outlines, Header, Job, job}
use Rattle.job.specs.Steps.{announce_bytes}
use Rattle.job.specs.Calls.{WriteSaid, unwritten, header_written, outline_written, write_told}
use Rattle.job.proofs.Job.{job-whole}
use Rattle.job.proofs.RoundTrip.{header-back}
use Rattle.job.proofs.ByCalls.{stood, fits, figure-goes}
use Rattle.job.proofs.Writing.{header-few, figure-bytes, rings-length, outline_bad}
use Rattle.index.specs.Index.{ChangeSaid, unchanged, changed_by, changed_to}
use Rattle.index.specs.Steps.{starts_in, Noted, Parted, changed_for}

-- what a writer tells that stores all of some bytes

module _ (b o out : List ℕ) where
  stood_known : {n : ℕ} → write_told (Ok n) o ≡ stood b out → (n ≡ length b) × (take n o ≡ b)
  stood_known {n} all =
      let m : n ≡ length b = ap (λ (v : WriteSaid). v.bytes) all in
      let q : o ≡ b ++ drop (length b) out = ap (λ (v : WriteSaid). v.out) all in
      (m, ap (take n) q ∙ take_at b (drop (length b) out) n (sym m))

  stood_never : (why : Refusal) → write_told (Err why) o ≡ stood b out → ⊥
  stood_never why all = let z : refusal_no why ≡ 0 = ap (λ (v : WriteSaid). v.number) all in omega (arith, refusal-some why, z)

-- a header

in_range_lem : (t w : ℕ) → t ≤ limit → w ≤ limit → in_range t w ≡ true
unfolding in_range
in_range_lem t w h k = simp le-leb

header-length : (t w n : ℕ) → length (header_bytes t w n) ≤ 9
unfolding header_bytes
header-length t w n =
    omega (
      arith,
      bytes-length t,
      bytes-length w,
      bytes-length n,
      length-append (number_bytes t) (number_bytes w ++ number_bytes n),
      length-append (number_bytes w) (number_bytes n),
    )

module _ (t w n : ℕ) (ht : t ≤ limit) (hw : w ≤ limit) (hn : n ≤ most_outlines) (o out : List ℕ) (room : 9 ≤ length out) where
  header_stood : header_written t w n out ≡ stood (header_bytes t w n) out
  header_stood =
      sym (header-few t w n out (in_range_lem t w ht hw) hn) ∙ fits out (header_bytes t w n) (omega (arith, header-length t w n))

  pub header-known : {m : ℕ} → write_told (Ok m) o ≡ header_written t w n out
      → (m ≡ length (header_bytes t w n)) × (take m o ≡ header_bytes t w n) × (m ≤ 9)
  header-known told =
      let k = stood_known (header_bytes t w n) o out (told ∙ header_stood) in (k.0, k.1, omega (arith, k.0, header-length t w n))

  pub header_never : (why : Refusal) → write_told (Err why) o ≡ header_written t w n out → ⊥
  header_never why told = stood_never (header_bytes t w n) o out why (told ∙ header_stood)

-- a figure

coordinates-small : (l : List ℕ) → length (coordinate_bytes l) ≤ 3 * length l
unfolding coordinate_bytes
coordinates-small [] = omega arith
coordinates-small (n ∷ l) = omega (arith, bytes-length n, coordinates-small l, length-append (number_bytes n) (coordinate_bytes l))

announcement_small : (n : ℕ) → length (announce_bytes n) ≤ 6
unfolding announce_bytes
announcement_small n = go (eqb n 1)
  where
    go : (b : Bool) → length (cond b [] (number_bytes 0 ++ number_bytes n)) ≤ 6
    go true = omega arith
    go false = omega (arith, bytes-length 0, bytes-length n, length-append (number_bytes 0) (number_bytes n))

module _ (f : Figure) where
  abbrev bytes_of : List ℕ
  bytes_of = figure_bytes (share f.lengths f.numbers)

  pub figure-small : bad_figure f ≡ false → length (figure_bytes (share f.lengths f.numbers)) ≤ 222
  figure-small good =
      let ls : List (List ℕ) = share f.lengths f.numbers in
      let g = rings-good f good in
      omega (
        arith,
        ap length (figure-bytes ls),
        length-append (announce_bytes (length ls)) (join ring_bytes ls),
        announcement_small (length ls),
        rings-length f good refl refl,
        coordinates-small f.lengths,
        coordinates-small f.numbers,
        g.few,
        g.numbers,
        g.most,
      )

  module _ (o out : List ℕ) (room : 222 ≤ length out) where
    figure_stood : bad_figure f ≡ false → outline_written f out ≡ stood bytes_of out
    figure_stood good = figure-goes f out good ∙ fits out bytes_of (omega (arith, figure-small good))

    figure_badly : bad_figure f ≡ true → outline_written f out ≡ unwritten (refusal_no Length) out
    figure_badly bad = sym (outline_bad f out bad)

    pub figure-known : {m : ℕ} → write_told (Ok m) o ≡ outline_written f out
        → (bad_figure f ≡ false) × (m ≡ length (figure_bytes (share f.lengths f.numbers)))
        × (take m o ≡ figure_bytes (share f.lengths f.numbers)) × (m ≤ 222)
    figure-known {m} told = go (bad_figure f) refl
      where
        go : (b : Bool) → bad_figure f ≡ b → (bad_figure f ≡ false) × (m ≡ length bytes_of) × (take m o ≡ bytes_of) × (m ≤ 222)
        go true p =
            let z : 0 ≡ refusal_no Length = ap (λ (v : WriteSaid). v.number) (told ∙ figure_badly p) in
            absurd (omega (arith, refusal-some Length, z))
        go false p =
            let k = stood_known bytes_of o out (told ∙ figure_stood p) in (p, k.0, k.1, omega (arith, k.0, figure-small p))

    pub figure-refused : (why : Refusal) → write_told (Err why) o ≡ outline_written f out → (bad_figure f ≡ true) × (why ≡ Length)
    figure-refused why told = go (bad_figure f) refl
      where
        go : (b : Bool) → bad_figure f ≡ b → (bad_figure f ≡ true) × (why ≡ Length)
        go true p =
            let z : refusal_no why ≡ refusal_no Length = ap (λ (v : WriteSaid). v.number) (told ∙ figure_badly p) in
            (p, refusal-one why Length z)
        go false p = absurd (stood_never bytes_of o out why (told ∙ figure_stood p))

-- three runs of bytes

pub parts-put : (a b d out o p q : List ℕ) {m n : ℕ} → m ≡ length a → n ≡ m + length b → o ≡ sets out 0 a → p ≡ sets o m b → q ≡ sets p n d
    → q ≡ sets out 0 (a ++ (b ++ d))
parts-put a b d out o p q {m} {n} em en eo ep eq =
    let z : m ≡ 0 + length a = omega (arith, em) in
    let y : n ≡ 0 + length a + length b = omega (arith, em, en) in
    eq
    ∙ ap₂ (λ (l : List ℕ) i. sets l i d) (ep ∙ ap₂ (λ (l : List ℕ) i. sets l i b) eo z) y
    ∙ sym (sets_append (sets out 0 a) (0 + length a) b d)
    ∙ sym (sets_append out 0 a (b ++ d))

pub parts-length : (a b d : List ℕ) → length (a ++ (b ++ d)) ≡ length a + length b + length d
parts-length a b d = omega (arith, length-append a (b ++ d), length-append b d)

pub parts-fit : (H o a b : List ℕ) (m n : ℕ) → take m o ≡ H → length (H ++ (a ++ b)) ≤ n → length (take m o ++ (a ++ b)) ≤ n
parts-fit H o a b m n e h = subst (λ (l : List ℕ). length (l ++ (a ++ b)) ≤ n) (sym e) h

pub front-short : (n most : ℕ) (l : List ℕ) → n ≤ most → length (take n l) ≤ most
front-short n most l h = omega (arith, length-take n l)

-- the new job

module _ (t w n : ℕ) (a b index out : List ℕ) (fit : Parted t w n (a ++ b)) where
  abbrev new : List ℕ
  new = header_bytes t w n ++ (a ++ b)

  pub anew_long : (m : ℕ) → m ≡ length new → most_bytes < m → unchanged (refusal_no Long) 0 index out ≡ changed_for (header_bytes t w n ++ (a ++ b)) index out
  unfolding changed_for
  anew_long m e h = simp (lt-ltb most_bytes (length new) (omega (arith, e)))

  module _ (m : ℕ) (long : m ≡ length new) (short : m ≤ most_bytes) where
    reads : (j : Job) × (last : ℕ) × (job new ≡ read j last) × (length j.parts ≡ n)
    reads = fit.reads (omega (arith, long))

    to_changed : changed_by new index out (read reads.0 reads.1) ≡ changed_for new index out
    unfolding changed_for changed_to
    to_changed =
        let p : changed_by new index out (job new) ≡ changed_for new index out = simp (le-ltb most_bytes (length new) (omega (arith, long))) in
        sym (ap (changed_by new index out) reads.2) ∙ p

    pub anew_out : length out < m → unchanged (refusal_no Room) 0 index out ≡ changed_for (header_bytes t w n ++ (a ++ b)) index out
    anew_out h =
        let p : unchanged (refusal_no Room) 0 index out ≡ changed_by new index out (read reads.0 reads.1) =
        simp (lt-leb (length new) (length out) (omega (arith, long)))
        in p ∙ to_changed

    pub anew_index : m ≤ length out → length index < n → unchanged (refusal_no Room) 0 index out ≡ changed_for (header_bytes t w n ++ (a ++ b)) index out
    anew_index h k =
        let j : Job = reads.0 in
        let p : unchanged (refusal_no Room) 0 index out ≡ changed_by new index out (read j reads.1) =
        simp (le-leb (length new) (length out) (omega (arith, long)), lt-leb (length j.parts) (length index) (omega (arith, reads.3)))
        in p ∙ to_changed

    -- the figures of the new job, read from behind its header on
    new_parts : {first : ℕ} → first ≡ length (header_bytes t w n) → outlines new n first ≡ read reads.0.parts reads.1
    new_parts {first} e =
        let wh = job-whole new reads.2 in
        let back = header-back new t w n fit.threshold fit.weight fit.count (stands-front new 0 (header_bytes t w n) (a ++ b) (stands-whole new)) in
        let same = sym wh.header_is ∙ back in
        let made : Header = record { threshold = t; weight = w; count = n } in
        let z : wh.head ≡ made = cc in
        let y : wh.first ≡ length (header_bytes t w n) = cc in
        ap₂ (λ k i. outlines new k i) (sym (ap (λ (h : Header). h.count) z)) (e ∙ sym y) ∙ wh.parts_are

    -- what stands at the front of the buffer is the new job
    new_stands : m ≤ length out → (s q : List ℕ) → q ≡ sets out 0 new → s ≡ take m q → s ≡ new
    new_stands h s q put taken =
        taken
        ∙ ap (take m) (put ∙ sets_front out new (omega (arith, long)))
        ∙ take_at new (drop (length new) out) m (sym long)

    -- and its figures read well
    pub anew_never : {first : ℕ} → first ≡ length (header_bytes t w n) → m ≤ length out → (s q : List ℕ)
        → q ≡ sets out 0 (header_bytes t w n ++ (a ++ b)) → s ≡ take m q → {r : Refusal} {p : ℕ} → fault r p ≡ past (outlines s n first) → ⊥
    anew_never {first} e h s q put taken f =
        apart (sym (f ∙ ap past (ap (λ (v : List ℕ). outlines v n first) (new_stands h s q put taken) ∙ new_parts e)))

    pub anew_done : {first : ℕ} → first ≡ length (header_bytes t w n) → m ≤ length out → n ≤ length index → (s q done : List ℕ)
        → q ≡ sets out 0 (header_bytes t w n ++ (a ++ b)) → s ≡ take m q → Noted (outlines s n first) index done
        → record { number = 0; bytes = m; outlines = n; offset = 0; index = done; out = q } ≡ changed_for (header_bytes t w n ++ (a ++ b)) index out
    anew_done {first} e h k s q done put taken noted =
        let j : Job = reads.0 in
        let said : ℕ → ℕ → List ℕ → List ℕ → ChangeSaid = λ x y i o. record { number = 0; bytes = x; outlines = y; offset = 0; index = i; out = o } in
        let front : q ≡ new ++ drop (length new) out = put ∙ sets_front out new (omega (arith, long)) in
        let same = new_stands h s q put taken in
        let starts : List ℕ = starts_in j.parts in
        let l : length starts ≡ length j.parts = length-map j.parts (λ (p : Part). p.start) in
        let kept : done ≡ sets index 0 starts =
        subst (λ (v : Reading (List Part)). Noted v index done) (ap (λ (v : List ℕ). outlines v n first) same ∙ new_parts e) noted
        in
        let p : said (length new) (length j.parts) (starts ++ drop (length j.parts) index) (new ++ drop (length new) out)
        ≡ changed_by new index out (read j reads.1) =
        simp (le-leb (length new) (length out) (omega (arith, long)), le-leb (length j.parts) (length index) (omega (arith, reads.3)))
        in
        ap₂ (λ x y. said x y done q) long (sym reads.3)
        ∙ ap₂ (said (length new) (length j.parts))
        (kept ∙ sets_front index starts (omega (arith, l, reads.3)) ∙ ap (λ i. starts ++ drop i index) l)
        front
        ∙ p
        ∙ to_changed
