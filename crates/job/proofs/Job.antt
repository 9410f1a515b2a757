-- Laws of reading a job: the ways that each step can go. Assumes nothing.
--
--   value-fault, value-under, value-over, value_in == a number held to its range
--   value_read, value-onward == a value that is read lies in its range, and goes on within the bytes
--   told-fault, told-read == a reading, by what is told of its value
--   ring-fault, ring_go, ring_inv, ring_long, ring-onward == a ring, by its V
--   sized-V, sized-fault, sized-read, ring-sized == its V with the place past it
--   rings-fault, rings_go, rings-first, rings-none, rings-length, rings-onward == rings in a row, by the first
--   announces-none, announces-short, announces_byte, announces_true == whether rings are announced
--   begun-many, begun-one, begun-some == how many rings there are
--   outline-begun, outline-fault, outline_go, outline-rings, outline-past, outline-onward == a figure, by its rings
--   part-past, part-read == a part, by its figure
--   header-threshold, header-weight, header-count, header_read == a header, by its three numbers
--   filled_extra, filled-read == what is read to the end of the bytes, or short of it
--   filled_inv        == what fills the bytes is read, to their end
--   job-long, job-header, job-outlines, job_extra, job-made, job_read == a job, by its parts
--   Whole, job-whole  == what a job that is read is made of
use Prim.Native.Nat.{ℕ, zero, suc, ◌+◌, ◌-◌, ◌*◌, ◌/◌, ◌<◌, ◌≤◌}
use mathlib.Core.Path.{◌≡◌, ◌∙◌, refl, sym, ap, ap₂, subst}
use mathlib.Core.List.{List, [], ◌∷◌}
use mathlib.Core.Bool.{Bool, true, false, cond, ◌&&◌, false≢true}
use native.Mathlib.Omega.{arith}
use lib.Dec.{leb, ltb, eqb}
use lib.ListN.{length, get_or}
use borrow.Author.Tests.{le-leb, lt-leb, leb-true, lt-ltb, le-ltb, ltb-true, ltb-false, eqb-true}
use Rattle.refusal.specs.declared.Refusal.{Refusal}
use Rattle.refusal.specs.declared.Refusal.TheVariants.{Range, Extra, Long}
use Rattle.number.specs.Reading.{Reading, read, fault, and_then, past}
use Rattle.number.specs.Number.{number}
use Rattle.number.proofs.Number.{apart}
use Rattle.number.proofs.Bytes.{number-onward}
use Rattle.number.proofs.Reading.{then_same, then_inv, past-fault, past-read, many-length, many-onward}
use Rattle.rule.specs.Rules.{limit}
use Rattle.figure.specs.Figure.{most_corners, most_rings, most_place, total}
use Rattle.job.specs.Job.{most_bytes, most_outlines, least_rings, left_after, value, coordinates, ring, rings_from, announces, outline, figure_of, Part, part, outlines, header, Header, filled, body, job, Job}
use Rattle.job.specs.Steps.{begun, sized, summed}

-- value

module _ (s : List ℕ) (low high at : ℕ) where
  abbrev held : ℕ → ℕ → Reading ℕ
  held v next = cond (leb low v && leb v high) (read v next) (fault Range (next - 1))

  pub value-fault : {r : Refusal} {p : ℕ} → fault r p ≡ number s at → fault r p ≡ value s low high at
  unfolding value
  value-fault e = then_same held e

  module _ {v next : ℕ} (e : read v next ≡ number s at) where
    pub value-under : v < low → fault Range (next - 1) ≡ value s low high at
    unfolding value
    value-under h = let p : fault Range (next - 1) ≡ held v next = simp lt-leb in p ∙ then_same held e

    pub value-over : low ≤ v → high < v → fault Range (next - 1) ≡ value s low high at
    unfolding value
    value-over h k = let p : fault Range (next - 1) ≡ held v next = simp (le-leb, lt-leb) in p ∙ then_same held e

    pub value_in : low ≤ v → v ≤ high → read v next ≡ value s low high at
    unfolding value
    value_in h k = let p : read v next ≡ held v next = simp le-leb in p ∙ then_same held e

  -- what is read lies in its range, and is a number of the bytes
  pub value_read : {v next : ℕ} → value s low high at ≡ read v next → (number s at ≡ read v next) × (low ≤ v) × (v ≤ high)
  unfolding value
  value_read {v} {next} e =
      let i = then_inv held (number s at) e in
      go i.0 i.1 (leb low i.0) refl (leb i.0 high) refl i.2 i.3
    where
      go : (u n : ℕ) (a : Bool) → leb low u ≡ a → (b : Bool) → leb u high ≡ b → number s at ≡ read u n
          → cond (a && b) (read u n) (fault Range (n - 1)) ≡ read v next → (number s at ≡ read v next) × (low ≤ v) × (v ≤ high)
      go u n true p true q f g =
          let z : u ≡ v = cc in (f ∙ g, subst (λ w. low ≤ w) z (leb-true low u p), subst (λ w. w ≤ high) z (leb-true u high q))
      go u n true p false q f g = absurd (apart (sym g))
      go u n false p b q f g = absurd (apart (sym g))

-- a value that is read goes on within the bytes
pub value-onward : (s : List ℕ) (low high at v next : ℕ) → value s low high at ≡ read v next → (at ≤ next) × (next ≤ length s)
value-onward s low high at v next e = let h = number-onward s at (value_read s low high at e).0 in omega arith

-- ring

module _ {A B : Type 0} (f : A → B) where
  -- a reading, by what is told of its value and by the place past it
  pub told-fault : (u : Reading A) {r : Refusal} {p : ℕ} → fault r p ≡ and_then u (λ a next. read (f a) next) → u ≡ fault r p
  told-fault (read a next) e = absurd (apart (sym e))
  told-fault (fault t q) {r} {p} e = let k : t ≡ r = cc in let m : q ≡ p = cc in ap₂ fault k m

  pub told-read : (u : Reading A) {b : B} {n : ℕ} → read b n ≡ and_then u (λ a next. read (f a) next) → (a : A) × (u ≡ read a n) × (f a ≡ b)
  told-read (read a next) {b} {n} e = let z : next ≡ n = cc in let y : f a ≡ b = cc in (a, ap (read a) z, y)
  told-read (fault r p) e = absurd (apart e)

module _ (s : List ℕ) (most at : ℕ) where
  abbrev cornered : ℕ → ℕ → Reading (List ℕ)
  cornered v next = coordinates s (2 * v) next

  pub ring-fault : {r : Refusal} {p : ℕ} → fault r p ≡ value s 4 most at → fault r p ≡ ring s most at
  unfolding ring
  ring-fault e = then_same cornered e

  pub ring_go : {v next : ℕ} → read v next ≡ value s 4 most at → coordinates s (2 * v) next ≡ ring s most at
  unfolding ring
  ring_go e = then_same cornered e

  pub ring_inv : {l : List ℕ} {last : ℕ} → ring s most at ≡ read l last
      → (v : ℕ) × (next : ℕ) × (value s 4 most at ≡ read v next) × (coordinates s (2 * v) next ≡ read l last)
  unfolding ring
  ring_inv e = then_inv cornered (value s 4 most at) e

  -- how many numbers a ring has that is read
  pub ring_long : {l : List ℕ} {last : ℕ} → ring s most at ≡ read l last
      → (length l ≡ 2 * (length l / 2)) × (4 ≤ length l / 2) × (length l / 2 ≤ most)
  unfolding coordinates
  ring_long {l} e =
      let i = ring_inv e in
      let n : length l ≡ 2 * i.0 = many-length (value s 0 most_place) (2 * i.0) i.1 i.3 in
      let r = value_read s 4 most at i.2 in
      (omega arith, omega (arith, r.1), omega (arith, r.2))

  pub ring-onward : {l : List ℕ} {last : ℕ} → ring s most at ≡ read l last → (at ≤ last) × (last ≤ length s)
  unfolding coordinates
  ring-onward e =
      let i = ring_inv e in
      let h = value-onward s 4 most at i.0 i.1 i.2 in
      let k = many-onward (value s 0 most_place) (length s) (value-onward s 0 most_place) (2 * i.0) i.1 h.1 i.3 in
      omega arith

  -- its V with the place past it
  pub sized-V : {r : Refusal} {p : ℕ} → fault r p ≡ value s 4 most at → fault r p ≡ sized (ring s most at)
  unfolding sized
  sized-V e = ap sized (ring-fault e)

  module _ {v next : ℕ} (e : read v next ≡ value s 4 most at) where
    pub sized-fault : {r : Refusal} {p : ℕ} → fault r p ≡ past (coordinates s (2 * v) next) → fault r p ≡ sized (ring s most at)
    unfolding sized
    sized-fault f = ap sized (sym (past-fault (coordinates s (2 * v) next) f) ∙ ring_go e)

    pub sized-read : {last : ℕ} → read tt last ≡ past (coordinates s (2 * v) next) → read v last ≡ sized (ring s most at)
    unfolding sized coordinates
    sized-read {last} f =
        let u = past-read (coordinates s (2 * v) next) f in
        let n : length u.0 ≡ 2 * v = many-length (value s 0 most_place) (2 * v) next u.1 in
        let w : v ≡ length u.0 / 2 = omega arith in
        ap (λ k. read k last) w ∙ ap sized (sym u.1 ∙ ring_go e)

  -- the ring of which this is told
  pub ring-sized : {v last : ℕ} → read v last ≡ sized (ring s most at)
      → (l : List ℕ) × (ring s most at ≡ read l last) × (length l ≡ 2 * v) × (length l / 2 ≡ v) × (v ≤ most)
  unfolding sized
  ring-sized {v} e =
      let u = told-read (λ (l : List ℕ). length l / 2) (ring s most at) e in
      let k = ring_long u.1 in
      (u.0, u.1, omega (arith, k.0, u.2), u.2, omega (arith, k.2, u.2))

-- rings

module _ (s : List ℕ) (n left at : ℕ) where
  abbrev ringed : List ℕ → ℕ → Reading (List (List ℕ))
  ringed l next = and_then (rings_from s n (left_after left l) next) (λ ls last. read (l ∷ ls) last)

  pub rings-fault : {r : Refusal} {p : ℕ} → ring s left at ≡ fault r p → rings_from s (suc n) left at ≡ fault r p
  unfolding rings_from
  rings-fault e = then_same ringed e

  pub rings_go : {l : List ℕ} {next : ℕ} → ring s left at ≡ read l next → rings_from s (suc n) left at ≡ ringed l next
  unfolding rings_from
  rings_go e = then_same ringed e

  pub rings-first : {ls : List (List ℕ)} {last : ℕ} → rings_from s (suc n) left at ≡ read ls last
      → (l : List ℕ) × (next : ℕ) × (ms : List (List ℕ)) × (ring s left at ≡ read l next)
      × (rings_from s n (left_after left l) next ≡ read ms last) × (ls ≡ l ∷ ms)
  unfolding rings_from
  rings-first {ls} {last} e =
      let i = then_inv ringed (ring s left at) e in
      let j = then_inv (λ ms k. read (i.0 ∷ ms) k) (rings_from s n (left_after left i.0) i.1) i.3 in
      let p : i.0 ∷ j.0 ≡ ls = cc in
      let q : j.1 ≡ last = cc in
      (i.0, i.1, j.0, i.2, j.2 ∙ ap (read j.0) q, sym p)

module _ (s : List ℕ) where
  pub rings-none : (left at : ℕ) {ls : List (List ℕ)} {last : ℕ} → rings_from s 0 left at ≡ read ls last → ([] ≡ ls) × (at ≡ last)
  unfolding rings_from
  rings-none left at {ls} {last} e = let a : [] ≡ ls = cc in let b : at ≡ last = cc in (a, b)

  pub rings-length : (n left at : ℕ) {ls : List (List ℕ)} {last : ℕ} → rings_from s n left at ≡ read ls last → length ls ≡ n
  rings-length zero left at e = ap length (sym (rings-none left at e).0)
  rings-length (suc n) left at e =
      let i = rings-first s n left at e in
      ap length i.5 ∙ ap suc (rings-length n (left_after left i.0) i.1 i.4)

  -- some rings go on within the bytes
  pub rings-onward : (n left at : ℕ) {ls : List (List ℕ)} {last : ℕ} → rings_from s (suc n) left at ≡ read ls last
      → (at ≤ last) × (last ≤ length s)
  rings-onward zero left at e =
      let i = rings-first s 0 left at e in
      omega (arith, ring-onward s left at i.3, (rings-none (left_after left i.0) i.1 i.4).1)
  rings-onward (suc n) left at e =
      let i = rings-first s (suc n) left at e in
      omega (arith, ring-onward s left at i.3, rings-onward n (left_after left i.0) i.1 i.4)

-- what announces rings

module _ (s : List ℕ) (at : ℕ) where
  pub announces-none : length s ≤ at → false ≡ announces s at
  unfolding announces
  announces-none h = rw (le-ltb at (length s) h)

  -- a test that failed says the same of it
  pub announces-short : length s ≤ at → ltb at (length s) ≡ announces s at
  unfolding announces
  announces-short h = rw (le-ltb at (length s) h)

  pub announces_byte : at < length s → eqb (get_or s at 0) 0 ≡ announces s at
  unfolding announces
  announces_byte h = rw (lt-ltb at (length s) h)

  pub announces_true : announces s at ≡ true → (at < length s) × (get_or s at 0 ≡ 0)
  unfolding announces
  announces_true e = go (ltb at (length s)) refl e
    where
      go : (b : Bool) → ltb at (length s) ≡ b → (b && eqb (get_or s at 0) 0) ≡ true → (at < length s) × (get_or s at 0 ≡ 0)
      go true p f = (ltb-true at (length s) p, eqb-true (get_or s at 0) 0 f)
      go false p f = absurd (false≢true f)

  pub begun-many : announces s at ≡ true → value s least_rings most_rings (at + 1) ≡ begun s at
  unfolding begun
  begun-many e = rw e

  pub begun-one : announces s at ≡ false → read 1 at ≡ begun s at
  unfolding begun
  begun-one e = rw e

-- a figure

module _ (s : List ℕ) (at : ℕ) where
  abbrev shown : ℕ → ℕ → Reading (List (List ℕ))
  shown r next = rings_from s r most_corners next

  -- one ring is read as rings are, one of them
  pub outline-begun : outline s at ≡ and_then (begun s at) shown
  unfolding outline begun rings_from
  outline-begun = go (announces s at)
    where
      go : (b : Bool) → cond b (and_then (value s least_rings most_rings (at + 1)) shown) (and_then (ring s most_corners at) (λ l next. read (l ∷ []) next))
          ≡ and_then (cond b (value s least_rings most_rings (at + 1)) (read 1 at)) shown
      go true = refl
      go false = refl

  pub outline-fault : {r : Refusal} {p : ℕ} → fault r p ≡ begun s at → fault r p ≡ outline s at
  outline-fault e = then_same shown e ∙ sym outline-begun

  pub outline_go : {r next : ℕ} → read r next ≡ begun s at → rings_from s r most_corners next ≡ outline s at
  outline_go e = then_same shown e ∙ sym outline-begun

  module _ {r next : ℕ} (e : read r next ≡ begun s at) where
    pub outline-rings : {t : Refusal} {p : ℕ} → fault t p ≡ summed (rings_from s r most_corners next) → fault t p ≡ outline s at
    unfolding summed
    outline-rings f = sym (told-fault (λ ls. total (figure_of ls)) (rings_from s r most_corners next) f) ∙ outline_go e

    pub outline-past : {m last : ℕ} → read m last ≡ summed (rings_from s r most_corners next) → read tt last ≡ past (outline s at)
    unfolding summed
    outline-past f =
        let u = told-read (λ ls. total (figure_of ls)) (rings_from s r most_corners next) f in ap past (sym u.1 ∙ outline_go e)

  pub begun-some : {r next : ℕ} → begun s at ≡ read r next → (0 < r) × (at ≤ next)
  unfolding begun
  begun-some {r} {next} e = go (announces s at) e
    where
      go : (b : Bool) → cond b (value s least_rings most_rings (at + 1)) (read 1 at) ≡ read r next → (0 < r) × (at ≤ next)
      go true f =
          let v = value_read s least_rings most_rings (at + 1) f in
          let w = value-onward s least_rings most_rings (at + 1) r next f in
          (omega (arith, v.1), omega (arith, w.0))
      go false f = let a : 1 ≡ r = cc in let b : at ≡ next = cc in (omega arith, omega arith)

  pub outline-onward : {ls : List (List ℕ)} {last : ℕ} → outline s at ≡ read ls last → (at ≤ last) × (last ≤ length s)
  outline-onward {ls} {last} e =
      let i = then_inv shown (begun s at) (sym outline-begun ∙ e) in
      let b = begun-some i.2 in
      go i.0 i.1 b.0 b.1 i.3
    where
      go : (r next : ℕ) → 0 < r → at ≤ next → rings_from s r most_corners next ≡ read ls last → (at ≤ last) × (last ≤ length s)
      go zero next h k f = absurd (omega arith)
      go (suc r) next h k f = let o = rings-onward s r most_corners next f in omega (arith, o)

-- parts

pub part-past : (s : List ℕ) (at : ℕ) → past (part s at) ≡ past (outline s at)
unfolding part
part-past s at = go (outline s at)
  where
    go : (u : Reading (List (List ℕ))) → past {A = Part} (and_then u (λ ls next. read (record { start = at; end = next; rings = ls }) next)) ≡ past u
    go (read l next) = refl
    go (fault r p) = refl

-- a part that is read: where it stands, and that it is a figure
pub part-read : (s : List ℕ) (at : ℕ) {p : Part} {next : ℕ} → part s at ≡ read p next
    → (outline s at ≡ read p.rings next) × (p.start ≡ at) × (p.end ≡ next)
unfolding part
part-read s at {p} {next} e =
    let i = then_inv (λ ls next. read (record { start = at; end = next; rings = ls }) next) (outline s at) e in
    let made : Part = record { start = at; end = i.1; rings = i.0 } in
    let z : made ≡ p = cc in
    let n : i.1 ≡ next = cc in
    (i.2 ∙ ap₂ read (ap (λ (q : Part). q.rings) z) n, sym (ap (λ (q : Part). q.start) z), sym (ap (λ (q : Part). q.end) z) ∙ n)

-- header

module _ (s : List ℕ) where
  -- what follows K, the weight, the threshold
  abbrev pub counted : ℕ → ℕ → ℕ → ℕ → Reading Header
  counted t w k next = read (record { threshold = t; weight = w; count = k }) next

  abbrev pub weighed : ℕ → ℕ → ℕ → Reading Header
  weighed t w q = and_then (value s 0 most_outlines q) (counted t w)

  abbrev pub heard : ℕ → ℕ → Reading Header
  heard t p = and_then (value s 0 limit p) (weighed t)

  pub header-threshold : {r : Refusal} {p : ℕ} → fault r p ≡ value s 0 limit 0 → fault r p ≡ header s
  unfolding header
  header-threshold e = then_same heard e

  module _ {t p : ℕ} (e : read t p ≡ value s 0 limit 0) where
    pub header-weight : {r : Refusal} {q : ℕ} → fault r q ≡ value s 0 limit p → fault r q ≡ header s
    unfolding header
    header-weight f = then_same (weighed t) f ∙ then_same heard e

    module _ {w q : ℕ} (f : read w q ≡ value s 0 limit p) where
      pub header-count : {r : Refusal} {m : ℕ} → fault r m ≡ value s 0 most_outlines q → fault r m ≡ header s
      unfolding header
      header-count g = then_same (counted t w) g ∙ then_same (weighed t) f ∙ then_same heard e

      pub header_read : {k next : ℕ} → read k next ≡ value s 0 most_outlines q
          → read (record { threshold = t; weight = w; count = k }) next ≡ header s
      unfolding header
      header_read g = then_same (counted t w) g ∙ then_same (weighed t) f ∙ then_same heard e

-- what fills the bytes

module _ {A : Type 0} (s : List ℕ) where
  pub filled_extra : (a : A) {last : ℕ} → last < length s → filled s (read a last) ≡ fault Extra last
  unfolding filled
  filled_extra a h = simp lt-ltb

  pub filled-read : {a : A} {last : ℕ} → length s ≤ last → filled s (read a last) ≡ read a last
  unfolding filled
  filled-read h = simp le-ltb

  pub filled_inv : (u : Reading A) {a : A} {last : ℕ} → filled s u ≡ read a last → (u ≡ read a last) × (length s ≤ last)
  unfolding filled
  filled_inv (fault r p) e = absurd (apart (sym e))
  filled_inv (read b n) {a} {last} e = go (ltb n (length s)) refl e
    where
      go : (t : Bool) → ltb n (length s) ≡ t → cond t (fault Extra n) (read b n) ≡ read a last
          → (read b n ≡ read a last) × (length s ≤ last)
      go true p q = absurd (apart (sym q))
      go false p q = let z : n ≡ last = cc in (q, subst (λ m. length s ≤ m) z (ltb-false n (length s) p))

-- the whole job

module _ (s : List ℕ) where
  abbrev together : Header → List Part → ℕ → Reading Job
  together h ps last = read (record { threshold = h.threshold; weight = h.weight; parts = ps }) last

  abbrev bodied : Header → ℕ → Reading Job
  bodied h next = and_then (outlines s h.count next) (together h)

  pub job-long : most_bytes < length s → job s ≡ fault Long 0
  unfolding job
  job-long h = simp lt-ltb

  module _ (short : length s ≤ most_bytes) where
    job-short : {u : Reading Job} → u ≡ body s → job s ≡ filled s u
    unfolding job
    job-short {u} e = let p : job s ≡ filled s (body s) = simp le-ltb in p ∙ ap (filled s) (sym e)

    pub job-header : {r : Refusal} {p : ℕ} → fault r p ≡ header s → job s ≡ fault r p
    unfolding filled body
    job-header e = job-short (then_same bodied e)

    module _ {h : Header} {next : ℕ} (e : read h next ≡ header s) where
      pub job-outlines : {r : Refusal} {p : ℕ} → fault r p ≡ past (outlines s h.count next) → job s ≡ fault r p
      unfolding filled body
      job-outlines f = job-short (then_same (together h) (sym (past-fault (outlines s h.count next) f)) ∙ then_same bodied e)

      pub job_extra : {last : ℕ} → read tt last ≡ past (outlines s h.count next) → last < length s → job s ≡ fault Extra last
      unfolding body
      job_extra f k =
          let u = past-read (outlines s h.count next) f in
          job-short (then_same (together h) (sym u.1) ∙ then_same bodied e) ∙ filled_extra s _ k

      pub job-made : {ps : List Part} {last : ℕ} → outlines s h.count next ≡ read ps last → length s ≤ last
          → job s ≡ read (record { threshold = h.threshold; weight = h.weight; parts = ps }) last
      unfolding body
      job-made f k = job-short (then_same (together h) (sym f) ∙ then_same bodied e) ∙ filled-read s k

      pub job_read : {last : ℕ} → read tt last ≡ past (outlines s h.count next) → length s ≤ last → (j : Job) × (job s ≡ read j last)
      job_read f k = let u = past-read (outlines s h.count next) f in (_, job-made u.1 k)

-- what a job that is read is made of
pub record Whole (s : List ℕ) (j : Job) (last : ℕ) : Type 0 where
  pub short : length s ≤ most_bytes
  pub head : Header
  pub first : ℕ
  pub header_is : header s ≡ read head first
  pub parts_are : outlines s head.count first ≡ read j.parts last
  pub threshold-is : j.threshold ≡ head.threshold
  pub weight_is : j.weight ≡ head.weight
  pub ends : length s ≤ last

pub job-whole : (s : List ℕ) {j : Job} {last : ℕ} → job s ≡ read j last → Whole s j last
unfolding job body
job-whole s {j} {last} e = go (ltb most_bytes (length s)) refl e
  where
    go : (b : Bool) → ltb most_bytes (length s) ≡ b → cond b (fault Long 0) (filled s (body s)) ≡ read j last → Whole s j last
    go true p q = absurd (apart (sym q))
    go false p q =
        let f = filled_inv s (body s) q in
        let h = then_inv (bodied s) (header s) f.0 in
        let o = then_inv (together s h.0) (outlines s h.0.count h.1) h.3 in
        let made : Job = record { threshold = h.0.threshold; weight = h.0.weight; parts = o.0 } in
        let y : made ≡ j = cc in
        let n : o.1 ≡ last = cc in
        record {
          short = ltb-false most_bytes (length s) p;
          head = h.0;
          first = h.1;
          header_is = h.2;
          parts_are = o.2 ∙ ap₂ read (ap (λ (k : Job). k.parts) y) n;
          threshold-is = sym (ap (λ (k : Job). k.threshold) y);
          weight_is = sym (ap (λ (k : Job). k.weight) y);
          ends = f.1;
        }
