-- What saving promises of what is left: the report is so, the bytes written are a sound job of the outlines kept, and a sound job comes back
-- byte for byte. Assumes nothing.
--
--   Written          == what is known of a call that was accepted
--   save_written     == and it is known of each
--   save_kept        == the report: what is kept reads well, one after another, and no more does; what is lost, and what is dropped
--   save_sound       == the bytes written are an accepted job by the same rule, with the outlines kept
--   save_whole       == a sound job comes back byte for byte, with nothing lost and nothing dropped
--   save_again       == so saving what was saved changes nothing
use Prim.Native.Nat.{ℕ, ◌+◌, ◌-◌, ◌<◌, ◌≤◌}
use mathlib.Core.Path.{◌≡◌, ◌∙◌, refl, sym, ap, ap₂, subst}
use mathlib.Core.Logic.{inl, inr}
use mathlib.Core.List.{List, [], ◌∷◌, ◌++◌, map}
use mathlib.Core.Bool.{Bool, true, false, cond}
use native.Mathlib.Omega.{arith}
use lib.Dec.{leb, ltb}
use lib.ListN.{length, get_or, take, drop, length-append, length-map, length-take, length-drop, take-append-drop, get_or-map}
use lib.Seq.{take_at, take_all}
use borrow.Author.Tests.{le-leb, ltb-true, ltb-false}
use Rattle.refusal.specs.declared.Refusal.TheVariants.{Long, Room}
use Rattle.refusal.specs.Refusals.{refusal_no}
use Rattle.refusal.proofs.Refusals.{never}
use Rattle.number.specs.Reading.{Reading, read, fault}
use Rattle.number.specs.Number.{number_bytes}
use Rattle.number.proofs.Reading.{many-length}
use Rattle.number.proofs.Bytes.{AllBytes}
use Rattle.job.specs.Bytes.{figure_bytes, header_bytes, outlines_bytes, job_bytes}
use Rattle.job.specs.Job.{most_bytes, most_outlines, figure_of, Part, part, outlines, Header, header, Job, job}
use Rattle.job.specs.Calls.{no_part}
use Rattle.job.proofs.Job.{job-whole}
use Rattle.job.proofs.RoundTrip.{Drawable, parts_of, Figures, outlines-only, header-only, job-back}
use Rattle.index.specs.Index.{figures}
use Rattle.index.proofs.Made.{header-length}
use Rattle.saving.specs.Salvage.{Left, kept_from, saved_bytes, SaveSaid, unsaved, saved_as, saved_by, saved}
use Rattle.saving.specs.Report.{Report}
use Rattle.saving.proofs.Keeping.{kept-all, kept-reads, kept-within}
use Rattle.saving.proofs.Saves.{header-range, first-within, to-saved}

abbrev done_by : List ℕ → List ℕ → Header → ℕ → Left → SaveSaid
done_by s out h first l =
    record {
      number = 0;
      bytes = length (saved_bytes s h first l);
      kept = length l.parts;
      lost = h.count - length l.parts;
      dropped = length s - l.end;
      offset = 0;
      out = saved_bytes s h first l ++ drop (length (saved_bytes s h first l)) out;
    }

pub record Written (s out : List ℕ) : Type 0 where
  pub head : Header
  pub first : ℕ
  pub header_is : header s ≡ read head first
  pub short : length s ≤ most_bytes
  pub told : saved s out ≡ done_by s out head first (kept_from s head.count first)

pub save_written : (s out : List ℕ) → (saved s out).number ≡ 0 → Written s out
unfolding saved
save_written s out z = go (ltb most_bytes (length s)) refl (header s) refl z
  where
    fits : (h : Header) (first : ℕ) → header s ≡ read h first → length s ≤ most_bytes → (b : Bool)
        → leb (length (saved_bytes s h first (kept_from s h.count first))) (length out) ≡ b
        → (cond b (done_by s out h first (kept_from s h.count first)) (unsaved (refusal_no Room) 0 out)).number ≡ 0
        → saved s out ≡ cond b (done_by s out h first (kept_from s h.count first)) (unsaved (refusal_no Room) 0 out) → Written s out
    fits h first e short true q n same = record { head = h; first = first; header_is = e; short = short; told = same }
    fits h first e short false q n same = absurd (never Room (sym n))

    go : (a : Bool) → ltb most_bytes (length s) ≡ a → (u : Reading Header) → header s ≡ u
        → (cond a (unsaved (refusal_no Long) 0 out) (saved_by s out u)).number ≡ 0 → Written s out
    go true p u e n = absurd (never Long (sym n))
    go false p (fault r o) e n = absurd (never r (sym n))
    go false p (read h first) e n =
        let short = ltb-false most_bytes (length s) p in
        fits h first e short (leb (length (saved_bytes s h first (kept_from s h.count first))) (length out)) refl n
        (sym (to-saved s out short) ∙ ap (saved_by s out) e)

pub save_kept : (s out : List ℕ) → (saved s out).number ≡ 0 → Report s (saved s out)
save_kept s out z =
    let w = save_written s out z in
    let l : Left = kept_from s w.head.count w.first in
    let k = kept-reads s w.head.count w.first in
    let n : length l.parts ≡ (saved s out).kept = sym (ap (λ (u : SaveSaid). u.kept) w.told) in
    record {
      head = w.head;
      first = w.first;
      header_is = w.header_is;
      parts = l.parts;
      end = l.end;
      reads = ap (λ m. outlines s m w.first) (sym n) ∙ k.0;
      stops = elim k.1 [
        | inl e ↦ inl (sym n ∙ e)
        | inr e ↦ inr (omega (arith, n, e.0), e.1)
      ];
      lost-is = ap (λ (u : SaveSaid). u.lost) w.told ∙ ap (λ m. w.head.count - m) n;
      dropped-is = ap (λ (u : SaveSaid). u.dropped) w.told;
    }

-- the figures of parts that are written one after another

rings-back : (at : ℕ) (fs : List (List (List ℕ))) → map (λ (p : Part). p.rings) (parts_of at fs) ≡ fs
rings-back at [] = refl
rings-back at (f ∷ fs) = ap (λ (l : List (List (List ℕ))). f ∷ l) (rings-back (at + length (figure_bytes f)) fs)

-- a header is no longer with a lower count

header-lower : (t w n k : ℕ) → n ≤ k → k ≤ most_outlines → length (header_bytes t w n) ≤ length (header_bytes t w k)
header-lower t w n k h m = go (ltb n 128) refl (ltb k 128) refl
  where
    long : (i : ℕ) (b : Bool) → i ≤ most_outlines → ltb i 128 ≡ b → length (header_bytes t w i) ≡ length (number_bytes t) + length (number_bytes w) + cond b 1 2
    long i b g e = header-length t w i g ∙ ap (λ (c : Bool). length (number_bytes t) + length (number_bytes w) + cond c 1 2) e

    go : (a : Bool) → ltb n 128 ≡ a → (b : Bool) → ltb k 128 ≡ b → length (header_bytes t w n) ≤ length (header_bytes t w k)
    go true p true q = omega (arith, long n true (omega (arith, h, m)) p, long k true m q)
    go true p false q = omega (arith, long n true (omega (arith, h, m)) p, long k false m q)
    go false p true q = absurd (omega (arith, ltb-false n 128 p, ltb-true k 128 q, h))
    go false p false q = omega (arith, long n false (omega (arith, h, m)) p, long k false m q)

module _ (s : List ℕ) (bytes : AllBytes s) (out : List ℕ) (z : (saved s out).number ≡ 0) where
  abbrev w : Written s out
  w = save_written s out z

  abbrev h : Header
  h = w.head

  abbrev l : Left
  l = kept_from s h.count w.first

  abbrev fs : List (List (List ℕ))
  fs = map (λ (p : Part). p.rings) l.parts

  abbrev b : List ℕ
  b = saved_bytes s h w.first l

  many-figures : length fs ≡ length l.parts
  many-figures = length-map l.parts (λ (p : Part). p.rings)

  written_is : take (saved s out).bytes (saved s out).out ≡ b
  written_is =
      ap₂ (λ n (o : List ℕ). take n o) (ap (λ (u : SaveSaid). u.bytes) w.told) (ap (λ (u : SaveSaid). u.out) w.told)
      ∙ take_at b (drop (length b) out) (length b) refl

  read-figures : Figures s bytes (length l.parts) w.first l.end l.parts
  read-figures = outlines-only s bytes (length l.parts) w.first (kept-reads s h.count w.first).0

  bytes_are : b ≡ job_bytes h.threshold h.weight fs
  unfolding Figures job_bytes
  bytes_are =
      let f = read-figures.0 in
      let n : l.end - w.first ≡ length (outlines_bytes fs) = omega (arith, f.1) in
      ap₂ (λ k (o : List ℕ). header_bytes h.threshold h.weight k ++ o) (sym many-figures)
      (ap (λ m. take m (drop w.first s)) n ∙ f.0)

  within : (w.first ≤ l.end) × (l.end ≤ length s) × (length l.parts ≤ h.count)
  within = kept-within s h.count w.first (first-within s bytes w.header_is)

  small : length b ≤ most_bytes
  small =
      let r = header-range s w.header_is in
      let o = header-only s bytes w.header_is in
      let body : List ℕ = take (l.end - w.first) (drop w.first s) in
      omega (
        arith,
        w.short,
        within,
        o.1,
        header-lower h.threshold h.weight (length l.parts) h.count within.2 r.2,
        length-append (header_bytes h.threshold h.weight (length l.parts)) body,
        length-take (l.end - w.first) (drop w.first s),
        length-drop w.first s,
      )

  drawn : (k : ℕ) → k < length fs → Drawable (figure_of (get_or fs k []))
  unfolding Figures
  drawn k m =
      subst (λ (ls : List (List ℕ)). Drawable (figure_of ls)) (sym (get_or-map (λ (p : Part). p.rings) l.parts k no_part))
      (read-figures.1 k (omega (arith, m, many-figures))).1

  reads-back : job b
      ≡ read
      (record {
        threshold = h.threshold;
        weight = h.weight;
        parts = parts_of (length (header_bytes h.threshold h.weight (length fs))) fs;
      })
      (length (job_bytes h.threshold h.weight fs))
  reads-back =
      let r = header-range s w.header_is in
      ap job bytes_are
      ∙ job-back h.threshold h.weight fs
      (record {
        threshold = r.0;
        weight = r.1;
        count = omega (arith, many-figures, within, r.2);
        outlines = drawn;
        short = omega (arith, small, ap length bytes_are);
      })

  pub save_sound : (j : Job) × (last : ℕ) × (job (take (saved s out).bytes (saved s out).out) ≡ read j last)
      × (j.threshold ≡ (save_kept s out z).head.threshold) × (j.weight ≡ (save_kept s out z).head.weight)
      × (figures j ≡ map (λ (p : Part). p.rings) (save_kept s out z).parts) × (length j.parts ≡ (saved s out).kept)
  unfolding save_kept save_written
  save_sound =
      let at : ℕ = length (header_bytes h.threshold h.weight (length fs)) in
      let j : Job = record { threshold = h.threshold; weight = h.weight; parts = parts_of at fs } in
      let same : figures j ≡ fs = rings-back at fs in (
        j,
        length (job_bytes h.threshold h.weight fs),
        ap job written_is ∙ reads-back,
        refl,
        refl,
        same,
        sym (length-map j.parts (λ (p : Part). p.rings)) ∙ ap length same ∙ many-figures ∙ sym (ap (λ (u : SaveSaid). u.kept) w.told),
      )

pub save_whole : (s out : List ℕ) → AllBytes s → {j : Job} {last : ℕ} → job s ≡ read j last → length s ≤ length out
    → saved s out
    ≡ record {
      number = 0;
      bytes = length s;
      kept = length j.parts;
      lost = 0;
      dropped = 0;
      offset = 0;
      out = s ++ drop (length s) out;
    }
save_whole s out bytes {j} {last} q room =
    let g = job-whole s q in
    let h : Header = g.head in
    let first : ℕ = g.first in
    let all = kept-all s h.count first g.parts_are in
    let l : Left = record { parts = j.parts; end = last } in
    let n : length j.parts ≡ h.count = unfold outlines in many-length (part s) h.count first g.parts_are in
    let o = header-only s bytes g.header_is in
    let w = kept-within s h.count first (first-within s bytes g.header_is) in
    let ends : last ≡ length s = omega (arith, g.ends, w.1, ap (λ (x : Left). x.end) all) in
    let H : List ℕ = header_bytes h.threshold h.weight h.count in
    let zero-first : first ≡ length H = omega (arith, o.1) in
    let same : saved_bytes s h first l ≡ s =
    ap (λ k. header_bytes h.threshold h.weight k ++ take (last - first) (drop first s)) n
    ∙ ap₂ (λ (a c : List ℕ). a ++ c) (sym o.0 ∙ ap (λ m. take m s) (sym zero-first))
    (take_all (last - first) (drop first s) (omega (arith, ends, length-drop first s)))
    ∙ take-append-drop first s
    in
    let fits : length (saved_bytes s h first l) ≤ length out = omega (arith, room, ap length same) in
    let p : saved_as s out h first l ≡ done_by s out h first l = simp (le-leb (length (saved_bytes s h first l)) (length out) fits) in
    let none : h.count - length j.parts ≡ 0 = omega (arith, n) in
    let nothing : length s - last ≡ 0 = omega (arith, ends) in
    let said : List ℕ → ℕ → ℕ → SaveSaid =
    λ b x d. record { number = 0; bytes = length b; kept = length j.parts; lost = x; dropped = d; offset = 0; out = b ++ drop (length b) out }
    in
    sym (to-saved s out g.short)
    ∙ ap (saved_by s out) g.header_is
    ∙ ap (saved_as s out h first) all
    ∙ p
    ∙ ap (λ (b : List ℕ). said b (h.count - length j.parts) (length s - last)) same
    ∙ ap₂ (said s) none nothing

pub save_again : (s out again : List ℕ) → AllBytes s → (z : (saved s out).number ≡ 0)
    → AllBytes (take (saved s out).bytes (saved s out).out) → length (take (saved s out).bytes (saved s out).out) ≤ length again
    → saved (take (saved s out).bytes (saved s out).out) again
    ≡ record {
      number = 0;
      bytes = length (take (saved s out).bytes (saved s out).out);
      kept = (saved s out).kept;
      lost = 0;
      dropped = 0;
      offset = 0;
      out = take (saved s out).bytes (saved s out).out ++ drop (length (take (saved s out).bytes (saved s out).out)) again;
    }
save_again s out again bytes z bs room =
    let y = save_sound s bytes out z in
    let b : List ℕ = take (saved s out).bytes (saved s out).out in
    save_whole b again bs y.2 room
    ∙ ap (λ k. record { number = 0; bytes = length b; kept = k; lost = 0; dropped = 0; offset = 0; out = b ++ drop (length b) again }) y.6
