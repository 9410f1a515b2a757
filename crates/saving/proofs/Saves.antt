-- Laws of saving, one for each way that the call ends. Assumes nothing.
--
--   header-range     == the three numbers of a header that is read are in range
--   first-within     == and it lies in the bytes
--   saves_long, saves_fault, saves_room, saves_done == the ways of `saved`
--   saves_within, saves_range, saves_short == what is kept lies in the bytes, is no more than was declared, and can be written
--   kept-room, kept-fits == a header and bytes behind it, by the room
use Prim.Native.Nat.{ℕ, ◌+◌, ◌-◌, ◌<◌, ◌≤◌}
use mathlib.Core.Path.{◌≡◌, ◌∙◌, refl, sym, ap, ap₂, subst}
use mathlib.Core.List.{List, ◌++◌}
use mathlib.Core.Bool.{Bool, true, false, cond}
use native.Mathlib.Omega.{arith}
use lib.Dec.{leb}
use lib.ListN.{length, take, drop, length-append, length-take, length-drop}
use lib.Seq.{sets}
use borrow.Author.Tests.{le-leb, lt-leb, lt-ltb, le-ltb, leb-true, leb-false}
use Rattle.sum.proofs.Lists.{sets_append, sets_front}
use Rattle.refusal.specs.declared.Refusal.{Refusal}
use Rattle.refusal.specs.declared.Refusal.TheVariants.{Long, Room}
use Rattle.refusal.specs.Refusals.{refusal_no}
use Rattle.refusal.proofs.Refusals.{refusal-some}
use Rattle.rule.specs.Rules.{limit}
use Rattle.number.specs.Reading.{read, fault}
use Rattle.number.proofs.Reading.{then_inv}
use Rattle.number.proofs.Bytes.{AllBytes}
use Rattle.job.specs.Bytes.{header_bytes}
use Rattle.job.specs.Job.{most_bytes, most_outlines, value, Header, header}
use Rattle.std.specs.Prelude.{Ok, Err}
use Rattle.job.specs.Calls.{WriteSaid, unwritten, written_to, write_told}
use Rattle.job.proofs.Job.{value_read, counted, weighed, heard}
use Rattle.job.proofs.RoundTrip.{header-only}
use Rattle.saving.specs.Salvage.{Left, kept_from, saved_bytes, SaveSaid, unsaved, saved_as, saved_by, saved}
use Rattle.saving.specs.Steps.{Keeps, InRange}
use Rattle.saving.proofs.Keeping.{kept-within}

pub header-range : (s : List ℕ) {h : Header} {next : ℕ} → header s ≡ read h next → (h.threshold ≤ limit) × (h.weight ≤ limit) × (h.count ≤ most_outlines)
unfolding header
header-range s {h} {next} e =
    let a = then_inv (heard s) (value s 0 limit 0) e in
    let b = then_inv (weighed s a.0) (value s 0 limit a.1) a.3 in
    let c = then_inv (counted s a.0 b.0) (value s 0 most_outlines b.1) b.3 in
    let made : Header = record { threshold = a.0; weight = b.0; count = c.0 } in
    let z : made ≡ h = cc in
    subst (λ (k : Header). (k.threshold ≤ limit) × (k.weight ≤ limit) × (k.count ≤ most_outlines)) z
    ((value_read s 0 limit 0 a.2).2, (value_read s 0 limit a.1 b.2).2, (value_read s 0 most_outlines b.1 c.2).2)

pub first-within : (s : List ℕ) → AllBytes s → {h : Header} {first : ℕ} → header s ≡ read h first → first ≤ length s
first-within s bytes {h} e =
    let o = header-only s bytes e in
    let H : List ℕ = header_bytes h.threshold h.weight h.count in
    omega (arith, ap length o.0, length-take (length H) s, o.1)

module _ (s out : List ℕ) where
  pub saves_long : most_bytes < length s → unsaved (refusal_no Long) 0 out ≡ saved s out
  unfolding saved
  saves_long h = simp (lt-ltb most_bytes (length s) h)

  module _ (short : length s ≤ most_bytes) where
    pub to-saved : saved_by s out (header s) ≡ saved s out
    unfolding saved
    to-saved = simp (le-ltb most_bytes (length s) short)

    pub saves_fault : {r : Refusal} {p : ℕ} → fault r p ≡ header s → unsaved (refusal_no r) p out ≡ saved s out
    saves_fault e = ap (saved_by s out) e ∙ to-saved

    module _ (bytes : AllBytes s) {h : Header} {first : ℕ} (e : read h first ≡ header s) (n end : ℕ)
        (kept : Keeps (kept_from s h.count first) n end) where
      abbrev H : List ℕ
      H = header_bytes h.threshold h.weight n

      abbrev body : List ℕ
      body = take (end - first) (drop first s)

      abbrev all : List ℕ
      all = saved_bytes s h first (kept_from s h.count first)

      pub saves_within : (first ≤ end) × (end ≤ length s) × (n ≤ h.count)
      saves_within =
          let w = kept-within s h.count first (first-within s bytes (sym e)) in
          (omega (arith, kept.ends, w.0), omega (arith, kept.ends, w.1), omega (arith, kept.count, w.2))

      all-is : H ++ body ≡ all
      all-is = ap₂ (λ m x. header_bytes h.threshold h.weight m ++ take (x - first) (drop first s)) kept.count kept.ends

      -- the header can be written, and the bytes are no more than a job may have
      pub saves_range : InRange h.threshold h.weight n
      saves_range =
          let r = header-range s (sym e) in
          record { threshold = r.0; weight = r.1; count = omega (arith, r.2, saves_within) }

      pub saves_short : length (take (end - first) (drop first s)) ≤ most_bytes
      saves_short = omega (arith, short, length-take (end - first) (drop first s), length-drop first s)

      -- by what writing it told
      module _ (o : List ℕ) where
        pub saves_room : (why : Refusal) → write_told (Err why) o ≡ written_to out (header_bytes h.threshold h.weight n ++ take (end - first) (drop first s))
            → unsaved (refusal_no why) 0 o ≡ saved s out
        saves_room why wrote = go (leb (length (H ++ body)) (length out)) refl wrote
          where
            go : (b : Bool) → leb (length (H ++ body)) (length out) ≡ b
                → unwritten (refusal_no why) o
                ≡ cond b (record { number = 0; bytes = length (H ++ body); out = (H ++ body) ++ drop (length (H ++ body)) out }) (unwritten (refusal_no Room) out)
                → unsaved (refusal_no why) 0 o ≡ saved s out
            go true p f = absurd (omega (arith, refusal-some why, ap (λ (v : WriteSaid). v.number) f))
            go false p f =
                let few : length out < length all = omega (arith, leb-false (length (H ++ body)) (length out) p, ap length all-is) in
                let g : unsaved (refusal_no Room) 0 out ≡ saved_as s out h first (kept_from s h.count first) = simp (lt-leb (length all) (length out) few) in
                ap₂ (λ m (i : List ℕ). unsaved m 0 i) (ap (λ (v : WriteSaid). v.number) f) (ap (λ (v : WriteSaid). v.out) f)
                ∙ g
                ∙ ap (saved_by s out) e
                ∙ to-saved

        pub saves_done : {b : ℕ} → write_told (Ok b) o ≡ written_to out (header_bytes h.threshold h.weight n ++ take (end - first) (drop first s))
            → record { number = 0; bytes = b; kept = n; lost = h.count - n; dropped = length s - end; offset = 0; out = o } ≡ saved s out
        saves_done {b} wrote = go (leb (length (H ++ body)) (length out)) refl wrote
          where
            said : ℕ → ℕ → ℕ → List ℕ → SaveSaid
            said x k t i = record { number = 0; bytes = x; kept = k; lost = h.count - k; dropped = length s - t; offset = 0; out = i }

            go : (d : Bool) → leb (length (H ++ body)) (length out) ≡ d
                → record { number = 0; bytes = b; out = o }
                ≡ cond d (record { number = 0; bytes = length (H ++ body); out = (H ++ body) ++ drop (length (H ++ body)) out }) (unwritten (refusal_no Room) out)
                → record { number = 0; bytes = b; kept = n; lost = h.count - n; dropped = length s - end; offset = 0; out = o } ≡ saved s out
            go false p f = absurd (omega (arith, refusal-some Room, ap (λ (v : WriteSaid). v.number) f))
            go true p f =
                let l : Left = kept_from s h.count first in
                let fits : length all ≤ length out = omega (arith, leb-true (length (H ++ body)) (length out) p, ap length all-is) in
                let g : said (length all) (length l.parts) l.end (all ++ drop (length all) out) ≡ saved_as s out h first l =
                simp (le-leb (length all) (length out) fits)
                in
                ap₂ (λ x (i : List ℕ). said x n end i) (ap (λ (v : WriteSaid). v.bytes) f) (ap (λ (v : WriteSaid). v.out) f)
                ∙ ap (λ (i : List ℕ). said (length i) n end (i ++ drop (length i) out)) all-is
                ∙ ap₂ (λ k t. said (length all) k t (all ++ drop (length all) out)) kept.count kept.ends
                ∙ g
                ∙ ap (saved_by s out) e
                ∙ to-saved

-- a header and bytes behind it

module _ (t w n : ℕ) (body out : List ℕ) (m : ℕ) (long : m ≡ length (header_bytes t w n)) where
  pub kept-room : length out < m + length body → unwritten (refusal_no Room) out ≡ written_to out (header_bytes t w n ++ body)
  kept-room few = simp (lt-leb (length (header_bytes t w n ++ body)) (length out) (omega (arith, long, length-append (header_bytes t w n) body)))

  pub kept-fits : m + length body ≤ length out → (head mid done : List ℕ) → take m head ≡ header_bytes t w n → mid ≡ sets out 0 (take m head)
      → done ≡ sets mid m body → record { number = 0; bytes = m + length body; out = done } ≡ written_to out (header_bytes t w n ++ body)
  kept-fits fits head mid done eh ep eq =
      let H : List ℕ = header_bytes t w n in
      let z : m ≡ 0 + length H = omega (arith, long) in
      let size : m + length body ≡ length (H ++ body) = omega (arith, long, length-append H body) in
      let front : done ≡ (H ++ body) ++ drop (length (H ++ body)) out =
      eq
      ∙ ap₂ (λ (o : List ℕ) i. sets o i body) (ep ∙ ap (sets out 0) eh) z
      ∙ sym (sets_append out 0 H body)
      ∙ sets_front out (H ++ body) (omega (arith, size))
      in
      let said : ℕ → List ℕ → WriteSaid = λ x o. record { number = 0; bytes = x; out = o } in
      let p : said (length (H ++ body)) ((H ++ body) ++ drop (length (H ++ body)) out) ≡ written_to out (H ++ body) =
      simp (le-leb (length (H ++ body)) (length out) (omega (arith, size)))
      in ap₂ said size front ∙ p
