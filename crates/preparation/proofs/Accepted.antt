-- Laws of a job that was accepted: what it says, and that each of its outlines can be taken and unpacked. Assumes nothing.
--
--   Accepted s h         == the job s is read, h is what it says before its outlines, and its rule is in range
--   sound-accepted       == a job that passes its check is accepted
--   ok_unless            == an answer that is no error is a good one
--   taken-whole          == taking an outline of an accepted job is not refused
--   refused_never        == nor is unpacking what is handed back
--   unpacked_fronts      == what unpacking an outline of an accepted job leaves in the two lists
--   figure_words         == the figure that an accepted job says has places for numbers
use Prim.Native.Nat.{ℕ, ◌*◌, ◌≤◌, ◌<◌}
use mathlib.Core.Path.{◌≡◌, refl, sym, ◌∙◌, ap, subst}
use mathlib.Core.Bool.{true}
use mathlib.Core.List.{List, ◌++◌}
use native.Mathlib.Omega.{arith}
use lib.ListN.{length, take, drop, get_or, length-append}
use lib.Seq.{take_at}
use borrow.Author.Tests.{le-leb}
use Rattle.std.specs.Prelude.{Result, Ok, Err}
use Rattle.std.specs.Result.{IsOk}
use Rattle.std.specs.Borrow.{Bor}
use Rattle.refusal.specs.declared.Fault.{Fault}
use Rattle.refusal.specs.Refusals.{refusal_no}
use Rattle.refusal.proofs.Refusals.{refusal-some}
use Rattle.number.specs.Reading.{Reading, read, fault}
use Rattle.number.proofs.Reading.{then_inv}
use Rattle.number.proofs.Bytes.{AllBytes}
use Rattle.rule.specs.Rules.{limit, in_range}
use Rattle.figure.specs.Figure.{Figure, total}
use Rattle.figure.proofs.Fault.{rings-good}
use Rattle.job.specs.declared.unpack.Unpacked.{Unpacked}
use Rattle.job.specs.Job.{most_outlines, Job, Header as Head, value, header, figure_of, job}
use Rattle.job.specs.Calls.{CheckSaid, no_part, job_said, checked, TakeSaid, told, taken, UnpackSaid, filled_by, unpacked, unpack_told, take_told}
use Rattle.job.proofs.Job.{value_read, counted, weighed, heard, job-whole}
use Rattle.job.proofs.RoundTrip.{Drawable, said-taken, said-unpacked}
use Rattle.demands.specs.Demands.{Words}
use Rattle.job.specs.declared.read.Job.{Job as Header}
use Rattle.preparation.specs.Outlines.{Sound, parts_of, said, Fronts}

pub ok_unless : {T E : Type 0} (r : Result T E) → ((e : E) → r ≡ Err e → ⊥) → IsOk r
ok_unless (Ok x) never = refl
ok_unless (Err e) never = absurd (never e refl)

-- the two numbers of a rule that is read are in range

header-range : (s : List ℕ) {h : Head} {next : ℕ} → header s ≡ read h next → (h.threshold ≤ limit) × (h.weight ≤ limit)
unfolding header
header-range s {h} {next} e =
    let a = then_inv (heard s) (value s 0 limit 0) e in
    let b = then_inv (weighed s a.0) (value s 0 limit a.1) a.3 in
    let c = then_inv (counted s a.0 b.0) (value s 0 most_outlines b.1) b.3 in
    let made : Head = record { threshold = a.0; weight = b.0; count = c.0 } in
    let z : made ≡ h = cc in
    subst (λ (k : Head). (k.threshold ≤ limit) × (k.weight ≤ limit)) z
    ((value_read s 0 limit 0 a.2).2, (value_read s 0 limit a.1 b.2).2)

range_true : (t w : ℕ) → t ≤ limit → w ≤ limit → in_range t w ≡ true
unfolding in_range
range_true t w h k = simp le-leb

pub record Accepted (s : List ℕ) (h : Header) : Type 0 where
  pub j : Job
  pub last : ℕ
  pub reads : job s ≡ read j last
  pub count : length j.parts ≡ h.outlines
  pub range : in_range h.threshold h.weight ≡ true

pub sound-accepted : (s : List ℕ) (h : Header) → Sound s h → Accepted s h
unfolding checked
sound-accepted s h e = go (job s) refl e
  where
    go : (u : Reading Job) → job s ≡ u
        → job_said u ≡ record { number = 0; threshold = h.threshold; weight = h.weight; outlines = h.outlines; offset = 0 }
        → Accepted s h
    go (read j last) p q =
        let w = job-whole s p in
        let r = header-range s w.header_is in
        let t : j.threshold ≡ h.threshold = ap (λ (u : CheckSaid). u.threshold) q in
        let v : j.weight ≡ h.weight = ap (λ (u : CheckSaid). u.weight) q in
        record {
          j = j;
          last = last;
          reads = p;
          count = ap (λ (u : CheckSaid). u.outlines) q;
          range = range_true h.threshold h.weight (omega (arith, r.0, w.threshold-is, t)) (omega (arith, r.1, w.weight_is, v));
        }
    go (fault r at) p q = let z : refusal_no r ≡ 0 = ap (λ (u : CheckSaid). u.number) q in absurd (omega (arith, refusal-some r))

-- a figure that fits the two lists it is unpacked to
module _ (f : Figure) (l ns : List ℕ) (fits : length f.numbers ≤ length l) (holds : length f.lengths ≤ length ns) where
  full : UnpackSaid
  full =
      record {
        number = 0;
        corners = total f;
        rings = length f.lengths;
        offset = 0;
        list = f.numbers ++ drop (length f.numbers) l;
        lengths = f.lengths ++ drop (length f.lengths) ns;
      }

  filled-full : filled_by f l ns ≡ full
  unfolding filled_by full
  filled-full = simp le-leb

module _ (s : List ℕ) (h : Header) (sound : Sound s h) (bytes : AllBytes s) (k : ℕ) (below : k < h.outlines) where
  accepted : Accepted s h
  accepted = sound-accepted s h sound

  below_parts : k < length accepted.j.parts
  below_parts = omega (arith, accepted.count)

  said-is : figure_of (get_or accepted.j.parts k no_part).rings ≡ said s k
  unfolding said
  said-is = ap (λ (u : Reading Job). figure_of (get_or (parts_of u) k no_part).rings) (sym accepted.reads)

  drawable : Drawable (said s k)
  drawable = subst Drawable said-is (said-taken s bytes accepted.reads k below_parts).1

  pub figure_words : Words (said s k)
  figure_words = drawable.each

  pub taken-whole : (r : Result (Bor (List ℕ)) Fault) → take_told r ≡ taken s k → IsOk r
  taken-whole (Ok part) told = refl
  taken-whole (Err e) told =
      let t = (said-taken s bytes accepted.reads k below_parts).0 in
      let z : refusal_no e.why ≡ 0 = ap (λ (u : TakeSaid). u.number) (told ∙ t) in
      absurd (omega (arith, refusal-some e.why))

  -- what unpacking the part tells, where the two lists have room for every figure
  module _ {n at : ℕ} {p : List ℕ} (taking : told n at p ≡ taken s k) (u : Result Unpacked Fault) (l' ns' l ns : List ℕ)
      (unpacking : unpack_told u l' ns' ≡ unpacked p l ns) (room : 64 ≤ length l) (rings : 8 ≤ length ns) where
    fits : length (said s k).numbers ≤ length l
    fits = let g = rings-good (said s k) drawable.good in omega (arith, g.numbers, g.most)

    holds : length (said s k).lengths ≤ length ns
    holds = let g = rings-good (said s k) drawable.good in omega (arith, g.few)

    unpacked-full : unpack_told u l' ns' ≡ full (said s k) l ns fits holds
    unpacked-full =
        unpacking
        ∙ ap (λ (v : TakeSaid). unpacked v.part l ns) taking
        ∙ said-unpacked s bytes accepted.reads k below_parts l ns
        ∙ ap (λ (f : Figure). filled_by f l ns) said-is
        ∙ filled-full (said s k) l ns fits holds

    pub refused_never : (e : Fault) → u ≡ Err e → ⊥
    unfolding full
    refused_never e is =
        let z : refusal_no e.why ≡ 0 =
        ap (λ (v : UnpackSaid). v.number) (ap (λ (v : Result Unpacked Fault). unpack_told v l' ns') (sym is) ∙ unpacked-full)
        in
        omega (arith, refusal-some e.why)

    pub unpacked_fronts : (w : Unpacked) → u ≡ Ok w → Fronts (said s k) w.corners w.rings l' ns'
    unfolding full
    unpacked_fronts w is =
        let v = w.corners in
        let r = w.rings in
        let f : Figure = said s k in
        let q = ap (λ (o : Result Unpacked Fault). unpack_told o l' ns') (sym is) ∙ unpacked-full in
        let a : v ≡ total f = ap (λ (o : UnpackSaid). o.corners) q in
        let b : r ≡ length f.lengths = ap (λ (o : UnpackSaid). o.rings) q in
        let x : l' ≡ f.numbers ++ drop (length f.numbers) l = ap (λ (o : UnpackSaid). o.list) q in
        let y : ns' ≡ f.lengths ++ drop (length f.lengths) ns = ap (λ (o : UnpackSaid). o.lengths) q in
        let g = rings-good f drawable.good in
        let n : length f.numbers ≡ 2 * v = omega (arith, g.numbers, a) in
        record {
          most = omega (arith, g.most, a);
          numbers = ap (take (2 * v)) x ∙ take_at f.numbers (drop (length f.numbers) l) (2 * v) n;
          lengths = ap (take r) y ∙ take_at f.lengths (drop (length f.lengths) ns) r (sym b);
          few = omega (arith, n, ap length x, length-append f.numbers (drop (length f.numbers) l));
          some = omega (arith, b, ap length y, length-append f.lengths (drop (length f.lengths) ns));
        }
