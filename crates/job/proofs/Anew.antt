-- What the reader accepts is in range, and the writers write it anew. Assumes nothing.
--
--   Fair ls          == a figure in range: 1 to 8 rings, each of 4 to 32 corners, 32 in all, each coordinate up to 65,535
--   Accepted s j, accepted-range == an accepted job is in range: at most 4,096 bytes, threshold and weight up to 1,000, K up to 255, each
--                           figure fair
--   check_accepts, checked-range == the same by what checking tells
--   figures_of j      == the figures that a job says, as the calls take them
--   share_forth      == laid out and shared out again, rings are what they were
--   read-written     == the writers, called with what was read and room enough, give those very bytes
--   fronts u         == what stands at the front of the two lists after unpacking, as a figure
--   unpacked-whole   == figure k of an accepted job is taken, and unpacked to lists of 64 and 8, with no refusal: what stands
--                       at the front of the two lists then is what the job says
--   unpacked-written == and handed to `write_outline` with room enough, this is written as the very bytes that were taken
use Prim.Native.Nat.{ℕ, zero, suc, ◌*◌, ◌/◌, ◌<◌, ◌≤◌, suc-le-suc}
use mathlib.Core.Path.{◌≡◌, ◌∙◌, refl, sym, ap, ap₂}
use mathlib.Core.List.{List, [], ◌∷◌, ◌++◌, map}
use mathlib.Core.Bool.{false}
use native.Mathlib.Omega.{arith}
use lib.ListN.{length, get_or, take, drop, length-map}
use lib.Seq.{take_at, drop_at}
use Rattle.sum.specs.Sum.{All, join}
use Rattle.sum.proofs.Lists.{All-imp, All-map}
use Rattle.refusal.specs.Refusals.{refusal_no}
use Rattle.refusal.proofs.Refusals.{refusal-some}
use Rattle.number.specs.Reading.{Reading, read, fault}
use Rattle.number.proofs.Bytes.{AllBytes}
use Rattle.number.proofs.Reading.{many-length}
use Rattle.figure.specs.Figure.{Figure, figure, share, total, bad_figure}
use Rattle.figure.proofs.Fault.{rings-good}
use Rattle.job.specs.Bytes.{figure_bytes, job_bytes}
use Rattle.job.specs.Job.{figure_of, Part, part, outlines, Job, job}
use Rattle.job.specs.Calls.{no_part, job_said, checked, TakeSaid, taken, UnpackSaid, unpacked, written_to, outline_written}
use Rattle.job.specs.ByCalls.{job_written}
use Rattle.job.proofs.Accepted.{header-range}
use Rattle.job.proofs.Rings.{Ring}
use Rattle.job.proofs.Job.{job-whole}
use Rattle.job.proofs.RoundTrip.{Drawable, drawn-rings, job_only, part-only, written-unpacked, said-taken}
use Rattle.job.proofs.ByCalls.{rings_of, stood, fits, figure-goes, calls_done}

pub record Fair (ls : List (List ℕ)) : Type 0 where
  pub good : bad_figure (figure_of ls) ≡ false
  pub some : 1 ≤ length (figure_of ls).lengths
  pub few : length (figure_of ls).lengths ≤ 8
  pub each : All (λ v. (4 ≤ v) × (v ≤ 32)) (figure_of ls).lengths
  pub most : total (figure_of ls) ≤ 32
  pub twice : length (figure_of ls).numbers ≡ 2 * total (figure_of ls)
  pub places : All (λ n. n ≤ 65535) (figure_of ls).numbers

fair : (ls : List (List ℕ)) → Drawable (figure_of ls) → Fair ls
fair ls d =
    let g = rings-good (figure_of ls) d.good in
    record { good = d.good; some = g.some; few = g.few; each = g.each; most = g.most; twice = g.numbers; places = d.each }

pub record Accepted (s : List ℕ) (j : Job) : Type 0 where
  pub bytes : length s ≤ 4096
  pub threshold : j.threshold ≤ 1000
  pub weight : j.weight ≤ 1000
  pub count : length j.parts ≤ 255
  pub figures : (k : ℕ) → k < length j.parts → Fair (get_or j.parts k no_part).rings

-- an accepted job is in range
pub accepted-range : (s : List ℕ) {j : Job} {last : ℕ} → AllBytes s → job s ≡ read j last → Accepted s j
unfolding outlines
accepted-range s {j} bs e =
    let w = job-whole s e in
    let h = header-range s w.header_is in
    let n = many-length (part s) w.head.count w.first w.parts_are in
    record {
      bytes = w.short;
      threshold = omega (arith, w.threshold-is, h.threshold);
      weight = omega (arith, w.weight_is, h.weight);
      count = omega (arith, n, h.count);
      figures = λ k m. fair (get_or j.parts k no_part).rings (part-only s bs e k m).1;
    }

-- a job that checking does not refuse is read, and said as it is read
pub check_accepts : (s : List ℕ) → (checked s).number ≡ 0 → (j : Job) × (last : ℕ) × (job s ≡ read j last) × (checked s ≡ job_said (read j last))
unfolding checked
check_accepts s e = go (job s) refl e
  where
    go : (u : Reading Job) → job s ≡ u → (job_said u).number ≡ 0
        → (j : Job) × (last : ℕ) × (u ≡ read j last) × (job_said u ≡ job_said (read j last))
    go (read j last) p f = (j, last, refl, refl)
    go (fault r at) p f = absurd (let z : refusal_no r ≡ 0 = f in omega (arith, z, refusal-some r))

pub checked-range : (s : List ℕ) → AllBytes s → (checked s).number ≡ 0
    → (length s ≤ 4096) × ((checked s).threshold ≤ 1000) × ((checked s).weight ≤ 1000) × ((checked s).outlines ≤ 255)
checked-range s bs e =
    let c = check_accepts s e in
    let a = accepted-range s bs c.2 in
    let q = c.3 in
    let t : (checked s).threshold ≡ c.0.threshold = ap (λ u. u.threshold) q in
    let w : (checked s).weight ≡ c.0.weight = ap (λ u. u.weight) q in
    let k : (checked s).outlines ≡ length c.0.parts = ap (λ u. u.outlines) q in
    (a.bytes, omega (arith, a.threshold, t), omega (arith, a.weight, w), omega (arith, a.count, k))

-- what was read is written anew

abbrev pub figures_of : Job → List Figure
figures_of j = map (λ (p : Part). figure_of p.rings) j.parts

pub share_forth : (ls : List (List ℕ)) → All Ring ls → rings_of (figure_of ls) ≡ ls
unfolding share join
share_forth [] h = refl
share_forth (l ∷ ls) h =
    let n = h.0.even in
    let rest : List ℕ = join (λ (m : List ℕ). m) ls in
    ap₂ (λ (a m : List ℕ). a ∷ share (map (λ (l : List ℕ). length l / 2) ls) m)
    (take_at l rest (2 * (length l / 2)) n)
    (drop_at l rest (2 * (length l / 2)) n)
    ∙ ap (λ (ms : List (List ℕ)). l ∷ ms) (share_forth ls h.1)

figures_forth : (ps : List Part) → All (λ (p : Part). Drawable (figure_of p.rings)) ps
    → map rings_of (map (λ (p : Part). figure_of p.rings) ps) ≡ map (λ (p : Part). p.rings) ps
figures_forth [] h = refl
figures_forth (p ∷ ps) h = ap₂ ◌∷◌ (share_forth p.rings (drawn-rings p.rings h.0).each) (figures_forth ps h.1)

-- all of a list, by each place of it
all-each : {A : Type 0} (Q : A → Type 0) (l : List A) (d : A) → ((k : ℕ) → k < length l → Q (get_or l k d)) → All Q l
all-each Q [] d h = tt
all-each Q (a ∷ l) d h = (h zero (omega arith), all-each Q l d (λ k m. h (suc k) (suc-le-suc m)))

pub read-written : (s : List ℕ) {j : Job} {last : ℕ} → AllBytes s → job s ≡ read j last → (out : List ℕ) → length s ≤ length out
    → job_written j.threshold j.weight (figures_of j) out ≡ record { number = 0; bytes = length s; out = s ++ drop (length s) out }
read-written s {j} bs e out room =
    let a = accepted-range s bs e in
    let all =
    all-each (λ (p : Part). Drawable (figure_of p.rings)) j.parts no_part (λ k m. (part-only s bs e k m).1)
    in
    let same : s ≡ job_bytes j.threshold j.weight (map rings_of (figures_of j)) =
    job_only s bs e ∙ ap (job_bytes j.threshold j.weight) (sym (figures_forth j.parts all))
    in
    let n : length (figures_of j) ≤ 255 = omega (arith, a.count, length-map j.parts (λ (p : Part). figure_of p.rings)) in
    let good =
    All-map (λ (f : Figure). bad_figure f ≡ false) (λ (p : Part). figure_of p.rings) j.parts
    (All-imp (λ (p : Part) (d : Drawable (figure_of p.rings)). d.good) j.parts all)
    in
    calls_done j.threshold j.weight (figures_of j) out a.threshold a.weight n good (omega (arith, room, ap length same))
    ∙ ap (λ (m : List ℕ). stood m out) (sym same)

-- one figure, by what the calls tell

-- what stands at the front of the two lists, by the corners and the rings that are told
abbrev pub fronts : UnpackSaid → Figure
fronts u = figure (take (2 * u.corners) u.list) (take u.rings u.lengths)

module _ (s : List ℕ) {j : Job} {last : ℕ} (bytes : AllBytes s) (e : job s ≡ read j last) (k : ℕ) (here : k < length j.parts)
    (l ns : List ℕ) (a : 64 ≤ length l) (b : 8 ≤ length ns) where
  -- the rings of figure k
  abbrev these : List (List ℕ)
  these = (get_or j.parts k no_part).rings

  -- it can be written, and its part is its bytes
  drawn : Drawable (figure_of these)
  drawn = (said-taken s bytes e k here).1

  part_bytes : (taken s k).part ≡ figure_bytes (rings_of (figure_of these))
  part_bytes =
      ap (λ (v : TakeSaid). v.part) (said-taken s bytes e k here).0
      ∙ ap figure_bytes (sym (share_forth these (drawn-rings these drawn).each))

  pub unpacked-whole : ((taken s k).number ≡ 0) × ((unpacked (taken s k).part l ns).number ≡ 0)
      × (fronts (unpacked (taken s k).part l ns) ≡ figure_of (get_or j.parts k no_part).rings)
  unpacked-whole =
      let f : Figure = figure_of these in
      let g = rings-good f drawn.good in
      let u =
      ap (λ (p : List ℕ). unpacked p l ns) part_bytes
      ∙ written-unpacked f l ns drawn (omega (arith, g.numbers, g.most, a)) (omega (arith, g.few, b))
      in (
        ap (λ (v : TakeSaid). v.number) (said-taken s bytes e k here).0,
        ap (λ (v : UnpackSaid). v.number) u,
        ap fronts u
            ∙ ap₂ figure
            (take_at f.numbers (drop (length f.numbers) l) (2 * total f) g.numbers)
            (take_at f.lengths (drop (length f.lengths) ns) (length f.lengths) refl),
      )

  pub unpacked-written : (out : List ℕ) → length (taken s k).part ≤ length out
      → outline_written (fronts (unpacked (taken s k).part l ns)) out
      ≡ record { number = 0; bytes = length (taken s k).part; out = (taken s k).part ++ drop (length (taken s k).part) out }
  unpacked-written out room =
      ap (λ (f : Figure). outline_written f out) unpacked-whole.2
      ∙ figure-goes (figure_of these) out drawn.good
      ∙ ap (written_to out) (sym part_bytes)
      ∙ fits out (taken s k).part room
