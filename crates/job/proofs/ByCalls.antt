-- Jobs read back as the calls wrote them: what `write_header` and `write_outline` leave in a buffer, one call behind the other, is
-- checked, taken and unpacked to what the calls were handed. Assumes nothing.
--
--   rings_of f        == the rings of a figure, its numbers shared out
--   no_figure         == what stands past the last figure
--   stood b out      == what a writer tells of the bytes b that are written to the buffer out
--   fits, figure-goes == bytes that fit are written; a figure that passes 2 is written as its rings
--   calls_order      == a header in range is written as threshold, weight and K, in this order
--   calls_header     == a header that is written is in range, and has those bytes
--   calls_figure     == a figure that is written passes 2, and its bytes are its rings'
--   Left, calls_left == what calls that were not refused were handed, and what they leave: the bytes of the job at the front
--   calls_done       == calls in range, with room for the bytes of the job, are not refused, and leave these
--   calls_checked    == checking the job that the calls left says threshold, weight and K as they were handed to `write_header`
--   calls_taken      == taking figure k of it gives the bytes that `write_outline` writes for that figure
--   calls_unpacked   == and unpacking those gives the numbers and the ring lengths that were handed to `write_outline`
use Prim.Native.Nat.{ℕ, zero, suc, ◌<◌, ◌≤◌}
use mathlib.Core.Path.{◌≡◌, ◌∙◌, refl, sym, ap, ap₂, subst}
use mathlib.Core.List.{List, [], ◌∷◌, ◌++◌, map, append_assoc, append-nil}
use mathlib.Core.Bool.{Bool, true, false}
use native.Mathlib.Nat.{le_of_suc-le-suc, not-suc-le-zero}
use native.Mathlib.Omega.{arith}
use lib.Dec.{leb, ltb, eqb}
use lib.ListN.{length, get_or, take, drop, length-append, length-drop, length-map, get_or-map}
use lib.Seq.{take-append_seam, drop-append_seam, drop-drop}
use borrow.Author.Tests.{le-leb, le-ltb, ltb-false, eqb-true, eqb-false, ne_eqb}
use Rattle.sum.specs.Sum.{All}
use Rattle.refusal.specs.declared.Refusal.TheVariants.{Rule, Length, Range, Room}
use Rattle.refusal.proofs.Refusals.{never}
use Rattle.rule.specs.Rules.{limit, in_range}
use Rattle.rule.proofs.Rules.{range_true}
use Rattle.number.proofs.Number.{cond_cases}
use Rattle.figure.specs.Figure.{Figure, figure, share, total, bad_figure}
use Rattle.job.specs.Bytes.{header_bytes, figure_bytes, outlines_bytes, job_bytes}
use Rattle.job.specs.Job.{most_outlines, figure_of}
use Rattle.job.specs.Calls.{checked, TakeSaid, taken, told, unpacked, WriteSaid, written_to, header_written, outline_written}
use Rattle.job.specs.ByCalls.{front, after, behind, figures_written, job_written}
use Rattle.job.proofs.Rings.{share_back}
use Rattle.job.proofs.RoundTrip.{Drawable, Writable, written-checked, written-taken, written-unpacked}

abbrev pub rings_of : Figure → List (List ℕ)
rings_of f = share f.lengths f.numbers

abbrev pub no_figure : Figure
no_figure = figure [] []

abbrev pub stood : List ℕ → List ℕ → WriteSaid
stood b out = record { number = 0; bytes = length b; out = b ++ drop (length b) out }

-- the bytes that stand at the front are read there
front_stood : (b out : List ℕ) → front (stood b out) ≡ b
front_stood b out = take-append_seam b (drop (length b) out)

-- one call

module _ (out b : List ℕ) where
  pub fits : length b ≤ length out → written_to out b ≡ stood b out
  fits h = simp (le-leb (length b) (length out) h)

  fitted : (written_to out b).number ≡ 0 → written_to out b ≡ stood b out
  fitted =
      cond_cases (λ (u : WriteSaid). u.number ≡ 0 → u ≡ stood b out) (leb (length b) (length out)) _ _ (λ p e. refl) (λ p e. absurd (never Room (sym e)))

range_in : (t w : ℕ) → t ≤ limit → w ≤ limit → in_range t w ≡ true
unfolding in_range
range_in t w h k = rw (le-leb t limit h, le-leb w limit k)

module _ (t w k : ℕ) (out : List ℕ) where
  -- a header in range is threshold, weight and K, in this order
  pub calls_order : in_range t w ≡ true → k ≤ most_outlines → header_written t w k out ≡ written_to out (header_bytes t w k)
  unfolding header_written
  calls_order p h = rw (p, le-ltb most_outlines k h)

  header_in : (header_written t w k out).number ≡ 0 → (in_range t w ≡ true) × (k ≤ most_outlines)
  unfolding header_written
  header_in =
      cond_cases (λ (u : WriteSaid). u.number ≡ 0 → (in_range t w ≡ true) × (k ≤ most_outlines)) (in_range t w) _ _
      (λ p. cond_cases (λ (u : WriteSaid). u.number ≡ 0 → (in_range t w ≡ true) × (k ≤ most_outlines)) (ltb most_outlines k) _ _
      (λ q e. absurd (never Range (sym e)))
      (λ q e. (p, ltb-false most_outlines k q)))
      (λ p e. absurd (never Rule (sym e)))

  -- a header that is written is in range, and has those bytes
  pub calls_header : (header_written t w k out).number ≡ 0
      → (t ≤ 1000) × (w ≤ 1000) × (k ≤ 255) × (header_written t w k out ≡ stood (header_bytes t w k) out)
  calls_header e =
      let i = header_in e in
      let r = range_true t w i.0 in
      let g = calls_order i.0 i.1 in
      (r.0, r.1, i.1, g ∙ fitted out (header_bytes t w k) (sym (ap (λ (u : WriteSaid). u.number) g) ∙ e))

module _ (f : Figure) (out : List ℕ) where
  pub figure-goes : bad_figure f ≡ false → outline_written f out ≡ written_to out (figure_bytes (rings_of f))
  unfolding outline_written
  figure-goes p = rw p

  figure_in : (outline_written f out).number ≡ 0 → bad_figure f ≡ false
  unfolding outline_written
  figure_in =
      cond_cases (λ (u : WriteSaid). u.number ≡ 0 → bad_figure f ≡ false) (bad_figure f) _ _ (λ p e. absurd (never Length (sym e))) (λ p e. p)

  -- a figure that is written passes 2, and its bytes are its rings'
  pub calls_figure : (outline_written f out).number ≡ 0 → (bad_figure f ≡ false) × (outline_written f out ≡ stood (figure_bytes (rings_of f)) out)
  calls_figure e =
      let i = figure_in e in
      let g = figure-goes i in
      (i, g ∙ fitted out (figure_bytes (rings_of f)) (sym (ap (λ (u : WriteSaid). u.number) g) ∙ e))

-- one call behind another

module _ (call : List ℕ → WriteSaid) where
  behind_stays : (b : WriteSaid) → (b.number ≡ 0 → ⊥) → behind call b ≡ b
  unfolding behind
  behind_stays b d = rw (ne_eqb b.number 0 d)

  module _ (a out : List ℕ) where
    behind-call : behind call (stood a out) ≡ after (stood a out) (call (drop (length a) out))
    unfolding behind
    behind-call = ap (λ (r : List ℕ). after (stood a out) (call r)) (drop-append_seam a (drop (length a) out))

    behind_stood : (b : List ℕ) → call (drop (length a) out) ≡ stood b (drop (length a) out) → behind call (stood a out) ≡ stood (a ++ b) out
    behind_stood b e =
        let rest : List ℕ = drop (length a) out in
        let n = length-append a b in
        let o : take (length a) (a ++ rest) ++ (b ++ drop (length b) rest) ≡ (a ++ b) ++ drop (length (a ++ b)) out =
        ap (λ (m : List ℕ). m ++ (b ++ drop (length b) rest)) (take-append_seam a rest)
        ∙ sym (append_assoc a b (drop (length b) rest))
        ∙ ap (λ (m : List ℕ). (a ++ b) ++ m) (drop-drop (length b) (length a) out ∙ ap (λ i. drop i out) (sym n))
        in
        behind-call
        ∙ ap (after (stood a out)) e
        ∙ ap₂ (λ i (m : List ℕ). record { number = 0; bytes = i; out = m }) (sym n) o

-- all figures

figures_stay : (fs : List Figure) (b : WriteSaid) → (b.number ≡ 0 → ⊥) → figures_written fs b ≡ b
unfolding figures_written
figures_stay [] b d = refl
figures_stay (f ∷ fs) b d = ap (figures_written fs) (behind_stays (outline_written f) b d) ∙ figures_stay fs b d

-- calls that end with no refusal had none before
figures-zero : (fs : List Figure) (b : WriteSaid) → (figures_written fs b).number ≡ 0 → b.number ≡ 0
figures-zero fs b e = go (eqb b.number 0) refl
  where
    go : (t : Bool) → eqb b.number 0 ≡ t → b.number ≡ 0
    go true p = eqb-true b.number 0 p
    go false p = sym (ap (λ (u : WriteSaid). u.number) (figures_stay fs b (eqb-false b.number 0 p))) ∙ e

-- the bytes of figures
abbrev written : List Figure → List ℕ
written fs = outlines_bytes (map rings_of fs)

figures-left : (fs : List Figure) (a out : List ℕ) → (figures_written fs (stood a out)).number ≡ 0
    → All (λ (f : Figure). bad_figure f ≡ false) fs × (figures_written fs (stood a out) ≡ stood (a ++ written fs) out)
unfolding figures_written outlines_bytes
figures-left [] a out e = (tt, ap (λ (m : List ℕ). stood m out) (sym (append-nil a)))
figures-left (f ∷ fs) a out e =
    let b : List ℕ = figure_bytes (rings_of f) in
    let call : List ℕ → WriteSaid = outline_written f in
    let zeroth = figures-zero fs (behind call (stood a out)) e in
    let this = calls_figure f (drop (length a) out) (sym (ap (λ (u : WriteSaid). u.number) (behind-call call a out)) ∙ zeroth) in
    let step = behind_stood call a out b this.1 in
    let rest = figures-left fs (a ++ b) out (ap (λ (u : WriteSaid). (figures_written fs u).number) (sym step) ∙ e) in (
      (this.0, rest.0),
      ap (figures_written fs) step ∙ rest.1 ∙ ap (λ (m : List ℕ). stood m out) (append_assoc a b (written fs)),
    )

figures-done : (fs : List Figure) (a out : List ℕ) → All (λ (f : Figure). bad_figure f ≡ false) fs → length (a ++ written fs) ≤ length out
    → figures_written fs (stood a out) ≡ stood (a ++ written fs) out
unfolding figures_written outlines_bytes
figures-done [] a out h k = ap (λ (m : List ℕ). stood m out) (sym (append-nil a))
figures-done (f ∷ fs) a out h k =
    let b : List ℕ = figure_bytes (rings_of f) in
    let rest : List ℕ = drop (length a) out in
    let same = append_assoc a b (written fs) in
    let n = length-drop (length a) out in
    let room : length b ≤ length rest = omega (arith, k, n, length-append a (b ++ written fs), length-append b (written fs)) in
    let step = behind_stood (outline_written f) a out b (figure-goes f rest h.0 ∙ fits rest b room) in
    ap (figures_written fs) step
    ∙ figures-done fs (a ++ b) out h.1 (subst (λ (m : List ℕ). length m ≤ length out) (sym same) k)
    ∙ ap (λ (m : List ℕ). stood m out) same

-- the whole job

pub record Left (t w : ℕ) (fs : List Figure) (out : List ℕ) : Type 0 where
  pub threshold : t ≤ 1000
  pub weight : w ≤ 1000
  pub count : length fs ≤ 255
  pub good : All (λ (f : Figure). bad_figure f ≡ false) fs
  pub left : job_written t w fs out ≡ stood (job_bytes t w (map rings_of fs)) out

module _ (t w : ℕ) (fs : List Figure) (out : List ℕ) where
  -- the header counts the figures that are written
  counted : header_bytes t w (length fs) ++ written fs ≡ job_bytes t w (map rings_of fs)
  unfolding job_bytes
  counted = ap (λ n. header_bytes t w n ++ written fs) (sym (length-map fs rings_of))

  pub calls_left : (job_written t w fs out).number ≡ 0 → Left t w fs out
  unfolding job_written
  calls_left e =
      let h = calls_header t w (length fs) out (figures-zero fs (header_written t w (length fs) out) e) in
      let f = figures-left fs (header_bytes t w (length fs)) out (ap (λ (u : WriteSaid). (figures_written fs u).number) (sym h.3) ∙ e) in
      record {
        threshold = h.0;
        weight = h.1;
        count = h.2;
        good = f.0;
        left = ap (figures_written fs) h.3 ∙ f.1 ∙ ap (λ (m : List ℕ). stood m out) counted;
      }

  pub calls_done : t ≤ 1000 → w ≤ 1000 → length fs ≤ 255 → All (λ (f : Figure). bad_figure f ≡ false) fs
      → length (job_bytes t w (map rings_of fs)) ≤ length out → job_written t w fs out ≡ stood (job_bytes t w (map rings_of fs)) out
  unfolding job_written
  calls_done ht hw hk good room =
      let H : List ℕ = header_bytes t w (length fs) in
      let all : length (H ++ written fs) ≤ length out = subst (λ (m : List ℕ). length m ≤ length out) (sym counted) room in
      let here : length H ≤ length out = omega (arith, all, length-append H (written fs)) in
      ap (figures_written fs) (calls_order t w (length fs) out (range_in t w ht hw) hk ∙ fits out H here)
      ∙ figures-done fs H out good all
      ∙ ap (λ (m : List ℕ). stood m out) counted

-- each member by its place
member : {A : Type 0} (Q : A → Type 0) (l : List A) (d : A) (k : ℕ) → All Q l → k < length l → Q (get_or l k d)
member Q [] d k h m = absurd (not-suc-le-zero m)
member Q (a ∷ l) d zero h m = h.0
member Q (a ∷ l) d (suc k) h m = member Q l d k h.1 (le_of_suc-le-suc m)

-- figure k of those that were handed, by its rings
rings_of-nth : (fs : List Figure) (k : ℕ) → get_or (map rings_of fs) k [] ≡ rings_of (get_or fs k no_figure)
unfolding share
rings_of-nth fs k = get_or-map rings_of fs k no_figure

-- the calls that read, on what the calls that write left: coordinates are 16-bit numbers, no call was refused, and the job is not too long
module _ (t w : ℕ) (fs : List Figure) (out : List ℕ) (places : All (λ (f : Figure). All (λ n. n ≤ 65535) f.numbers) fs)
    (done : (job_written t w fs out).number ≡ 0) (short : (job_written t w fs out).bytes ≤ 4096) where
  drawn : (k : ℕ) → k < length fs → Drawable (get_or fs k no_figure)
  drawn k h =
      record {
        good = member (λ (f : Figure). bad_figure f ≡ false) fs no_figure k (calls_left t w fs out done).good h;
        each = member (λ (f : Figure). All (λ n. n ≤ 65535) f.numbers) fs no_figure k places h;
      }

  writable : Writable t w (map rings_of fs)
  writable =
      let l = calls_left t w fs out done in
      let n = length-map fs rings_of in
      record {
        threshold = l.threshold;
        weight = l.weight;
        count = omega (arith, l.count, n);
        outlines = λ k h.
            let d = drawn k (omega (arith, h, n)) in
            subst (λ ls. Drawable (figure_of ls)) (sym (rings_of-nth fs k)) (subst Drawable (sym (share_back (get_or fs k no_figure) d.good)) d);
        short = omega (arith, short, ap (λ (u : WriteSaid). u.bytes) l.left);
      }

  job-front : front (job_written t w fs out) ≡ job_bytes t w (map rings_of fs)
  job-front = ap front (calls_left t w fs out done).left ∙ front_stood (job_bytes t w (map rings_of fs)) out

  pub calls_checked : checked (front (job_written t w fs out))
      ≡ record { number = 0; threshold = t; weight = w; outlines = length fs; offset = 0 }
  calls_checked =
      ap checked job-front
      ∙ written-checked t w (map rings_of fs) writable
      ∙ ap (λ n. record { number = 0; threshold = t; weight = w; outlines = n; offset = 0 }) (length-map fs rings_of)

  module _ (k : ℕ) (h : k < length fs) where
    taken-by : taken (front (job_written t w fs out)) k ≡ told 0 0 (figure_bytes (rings_of (get_or fs k no_figure)))
    taken-by =
        ap (λ (s : List ℕ). taken s k) job-front
        ∙ written-taken t w (map rings_of fs) writable k (omega (arith, h, length-map fs rings_of))
        ∙ ap (λ ls. told 0 0 (figure_bytes ls)) (rings_of-nth fs k)

    pub calls_taken : (room : List ℕ) → (outline_written (get_or fs k no_figure) room).number ≡ 0
        → taken (front (job_written t w fs out)) k ≡ told 0 0 (front (outline_written (get_or fs k no_figure) room))
    calls_taken room e =
        let f : Figure = get_or fs k no_figure in
        taken-by
        ∙ ap (told 0 0) (sym (ap front (calls_figure f room e).1 ∙ front_stood (figure_bytes (rings_of f)) room))

    pub calls_unpacked : (l ns : List ℕ) → length (get_or fs k no_figure).numbers ≤ length l → length (get_or fs k no_figure).lengths ≤ length ns
        → unpacked (taken (front (job_written t w fs out)) k).part l ns
        ≡ record {
          number = 0;
          corners = total (get_or fs k no_figure);
          rings = length (get_or fs k no_figure).lengths;
          offset = 0;
          list = (get_or fs k no_figure).numbers ++ drop (length (get_or fs k no_figure).numbers) l;
          lengths = (get_or fs k no_figure).lengths ++ drop (length (get_or fs k no_figure).lengths) ns;
        }
    calls_unpacked l ns a b =
        ap (λ (u : TakeSaid). unpacked u.part l ns) taken-by ∙ written-unpacked (get_or fs k no_figure) l ns (drawn k h) a b
