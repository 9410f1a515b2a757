-- Jobs read back as written, and have one byte form. Assumes nothing.
--
--   Drawable f           == a figure that can be written: it passes 2, and each coordinate is 0 to 65,535
--   Rings ls, drawn-rings, rings-drawn == the same by its rings
--   parts_of at fs        == where figures stand that are written one after another from a place on
--   value-back, coordinates-back, ring-back, rings-back, outline-back, outlines-back, header-back == what is written is read back
--   job-back             == a job that is written is read back
--   value-only, coordinates-only, ring-only, rings-only, outline-only, outlines-only, header-only == what is read is what would be written
--   one-ring             == a figure of one ring stands as that ring alone, V and its coordinates
--   job_only             == writing anew what an accepted job says gives its bytes
--   part-only            == each part of an accepted job is its figure's bytes
--   one_form             == two accepted jobs that say the same are the same bytes
--   written-checked, written-taken, written-unpacked == the reading calls on what the writers wrote
--   said-taken, said-unpacked == taking figure k of an accepted job gives the bytes of what the job says of it, and unpacking those
--                           gives its two lists
use Prim.Native.Nat.{ℕ, zero, suc, ◌+◌, ◌-◌, ◌*◌, ◌/◌, ◌<◌, ◌≤◌, suc-le-suc}
use mathlib.Core.Path.{◌≡◌, ◌∙◌, refl, sym, ap, ap₂, subst}
use mathlib.Core.List.{List, [], ◌∷◌, ◌++◌, map}
use mathlib.Core.Bool.{Bool, true, false, cond}
use native.Mathlib.Nat.{add-zero, le_of_suc-le-suc, not-suc-le-zero}
use native.Mathlib.Omega.{arith}
use lib.ListN.{length, get_or, take, drop, length-append, length-map}
use lib.Seq.{take_all, drop-cons}
use borrow.Author.Tests.{lt-ltb, le-leb, eq-eqb, ne_eqb}
use Rattle.sum.specs.Sum.{All, sum_of, join}
use Rattle.sum.proofs.Lists.{All-imp, All-join}
use Rattle.number.specs.Reading.{read, and_then, many}
use Rattle.number.specs.Number.{most, number_bytes}
use Rattle.number.proofs.Bytes.{Stands, AllBytes, stands-room, stands-first, stands-join, stands-front, stands-back, stands-whole, bytes_one, number-back, number-only}
use Rattle.number.proofs.Reading.{then_same, then_inv, many-cons, many-first, many-length}
use Rattle.rule.specs.Rules.{limit}
use Rattle.figure.specs.Figure.{Figure, most_corners, most_rings, most_place, share, total, bad_figure}
use Rattle.figure.proofs.Fault.{rings-good}
use Rattle.job.specs.Bytes.{coordinate_bytes, header_bytes, ring_bytes, announced_bytes, figure_bytes, outlines_bytes, job_bytes}
use Rattle.job.specs.Job.{most_bytes, most_outlines, least_rings, left_after, value, coordinates, ring, rings_from, announces, outline, figure_of, Part, part, outlines, Header, header, filled, Job, job}
use Rattle.job.proofs.Rings.{Ring, figure-good, rings-each, lengths-each, numbers_twice, share_back}
use Rattle.job.proofs.Job.{value_in, value_read, ring_go, ring_inv, ring_long, rings_go, rings-first, rings-none, announces_byte, announces_true, begun-many, begun-one, outline_go, counted, weighed, heard, header_read, filled-read, job-made, part-read, job-whole}
use Rattle.job.specs.Calls.{TakeSaid, no_part, part_bytes, part_taken, taken, told, job_said, checked, filled_by, part_unpacked, unpacked}

-- a figure that can be written
pub record Drawable (f : Figure) : Type 0 where
  pub good : bad_figure f ≡ false
  pub each : All (λ n. n ≤ most_place) f.numbers

-- the same by its rings
pub record Rings (ls : List (List ℕ)) : Type 0 where
  pub some : 0 < length ls
  pub few : length ls ≤ most_rings
  pub each : All Ring ls
  pub most : total (figure_of ls) ≤ most_corners

pub drawn-rings : (ls : List (List ℕ)) → Drawable (figure_of ls) → Rings ls
drawn-rings ls d =
    let g = rings-good (figure_of ls) d.good in
    let n = length-map ls (λ (l : List ℕ). length l / 2) in
    record {
      some = omega (arith, g.some, n);
      few = omega (arith, g.few, n);
      each = rings-each ls g.numbers g.each d.each;
      most = g.most;
    }

pub rings-drawn : (ls : List (List ℕ)) → Rings ls → Drawable (figure_of ls)
rings-drawn ls r =
    let n = length-map ls (λ (l : List ℕ). length l / 2) in
    record {
      good =
          figure-good (figure_of ls)
          (record {
            some = omega (arith, r.some, n);
            few = omega (arith, r.few, n);
            each = lengths-each ls r.each r.most;
            most = r.most;
            numbers = numbers_twice ls r.each;
          });
      each = All-join (λ n. n ≤ most_place) (λ (l : List ℕ). l) ls (All-imp (λ (l : List ℕ) (h : Ring l). h.places) ls r.each);
    }

-- rings that are announced
figure-many : (ls : List (List ℕ)) → 2 ≤ length ls → figure_bytes ls ≡ announced_bytes ls
unfolding figure_bytes
figure-many [] h = absurd (omega arith)
figure-many (l ∷ []) h = absurd (omega arith)
figure-many (a ∷ b ∷ ls) h = refl

-- what is written is read back

-- the place past two runs of bytes
past-both : (at : ℕ) (a b : List ℕ) → at + length a + length b ≡ at + length (a ++ b)
past-both at a b = omega (arith, length-append a b)

module _ (s : List ℕ) where
  pub value-back : (low high at n : ℕ) → low ≤ n → n ≤ high → n ≤ most → Stands s at (number_bytes n)
      → value s low high at ≡ read n (at + length (number_bytes n))
  value-back low high at n h k m e = sym (value_in s low high at (sym (number-back s at n m e)) h k)

  pub coordinates-back : (l : List ℕ) (at : ℕ) → All (λ n. n ≤ most_place) l → Stands s at (coordinate_bytes l)
      → coordinates s (length l) at ≡ read l (at + length (coordinate_bytes l))
  unfolding coordinates coordinate_bytes many
  coordinates-back [] at h e = ap (read []) (sym (add-zero at))
  coordinates-back (n ∷ l) at h e =
      let small = h.0 in
      let first = value-back 0 most_place at n (omega arith) small (omega arith) (stands-front s at (number_bytes n) (coordinate_bytes l) e) in
      let rest = coordinates-back l (at + length (number_bytes n)) h.1 (stands-back s at (number_bytes n) (coordinate_bytes l) e) in
      many-cons (value s 0 most_place) at (length l) first rest
      ∙ ap (read (n ∷ l)) (past-both at (number_bytes n) (coordinate_bytes l))

  pub ring-back : (l : List ℕ) (high at : ℕ) → Ring l → length l / 2 ≤ high → high ≤ most_corners → Stands s at (ring_bytes l)
      → ring s high at ≡ read l (at + length (ring_bytes l))
  unfolding ring_bytes
  ring-back l high at r k m e =
      let v : ℕ = length l / 2 in
      let here = stands-front s at (number_bytes v) (coordinate_bytes l) e in
      let first = value-back 4 high at v r.least k (omega arith) here in
      let rest = coordinates-back l (at + length (number_bytes v)) r.places (stands-back s at (number_bytes v) (coordinate_bytes l) e) in
      sym (ring_go s high at (sym first))
      ∙ ap (λ n. coordinates s n (at + length (number_bytes v))) (sym r.even)
      ∙ rest
      ∙ ap (read l) (past-both at (number_bytes v) (coordinate_bytes l))

  pub rings-back : (ls : List (List ℕ)) (left at : ℕ) → All Ring ls → total (figure_of ls) ≤ left → left ≤ most_corners
      → Stands s at (join ring_bytes ls) → rings_from s (length ls) left at ≡ read ls (at + length (join ring_bytes ls))
  unfolding rings_from join sum_of
  rings-back [] left at h k m e = ap (read []) (sym (add-zero at))
  rings-back (l ∷ ls) left at h k m e =
      let first = ring-back l left at h.0 (omega (arith, k)) m (stands-front s at (ring_bytes l) (join ring_bytes ls) e) in
      let rest =
      rings-back ls (left_after left l) (at + length (ring_bytes l)) h.1 (omega (arith, k)) (omega (arith, m))
      (stands-back s at (ring_bytes l) (join ring_bytes ls) e)
      in
      rings_go s (length ls) left at first
      ∙ then_same (λ ms last. read (l ∷ ms) last) rest
      ∙ ap (read (l ∷ ls)) (past-both at (ring_bytes l) (join ring_bytes ls))

  -- a ring's first byte is its V and no 0
  not-announced : (l : List ℕ) (at : ℕ) → Ring l → length l / 2 ≤ most_corners → Stands s at (ring_bytes l) → announces s at ≡ false
  unfolding ring_bytes
  not-announced l at r k e =
      let v : ℕ = length l / 2 in
      let here = stands-front s at (number_bytes v) (coordinate_bytes l) e in
      let one = bytes_one v (omega arith) in
      let room = stands-room s at (number_bytes v) here in
      let n = ap length one in
      let some = r.least in
      let first : get_or s at 0 ≡ v = stands-first s at (number_bytes v) here (omega arith) ∙ ap (λ (b : List ℕ). get_or b 0 0) one in
      sym (announces_byte s at (omega arith)) ∙ ne_eqb (get_or s at 0) 0 (λ z. omega arith)

  -- a byte 0 announces rings
  announced : (at : ℕ) → Stands s at (number_bytes 0) → announces s at ≡ true
  announced at e =
      let one = bytes_one 0 (omega arith) in
      let room = stands-room s at (number_bytes 0) e in
      let n = ap length one in
      let first : get_or s at 0 ≡ 0 = stands-first s at (number_bytes 0) e (omega arith) ∙ ap (λ (b : List ℕ). get_or b 0 0) one in
      sym (announces_byte s at (omega arith)) ∙ eq-eqb (get_or s at 0) 0 first

  alone_back : (l : List ℕ) (at : ℕ) → Rings (l ∷ []) → Stands s at (ring_bytes l) → outline s at ≡ read (l ∷ []) (at + length (ring_bytes l))
  unfolding rings_from sum_of
  alone_back l at r e =
      let most = r.most in
      let k : length l / 2 ≤ most_corners = omega arith in
      sym (outline_go s at (begun-one s at (not-announced l at r.each.0 k e)))
      ∙ rings_go s 0 most_corners at (ring-back l most_corners at r.each.0 k (omega arith) e)

  several_back : (ls : List (List ℕ)) (at : ℕ) → Rings ls → 2 ≤ length ls
      → Stands s at (announced_bytes ls) → outline s at ≡ read ls (at + length (announced_bytes ls))
  several_back ls at r k e =
      let Z : List ℕ = number_bytes 0 in
      let N : List ℕ = number_bytes (length ls) in
      let B : List ℕ = join ring_bytes ls in
      let one : length Z ≡ 1 = ap length (bytes_one 0 (omega arith)) in
      let after = stands-back s at Z (N ++ B) e in
      let count : value s least_rings most_rings (at + length Z) ≡ read (length ls) (at + length Z + length N) =
      value-back least_rings most_rings (at + length Z) (length ls) (omega arith) r.few (omega (arith, r.few)) (stands-front s (at + length Z) N B after)
      in
      let begin : value s least_rings most_rings (at + 1) ≡ read (length ls) (at + length Z + length N) =
      ap (λ n. value s least_rings most_rings (at + n)) (sym one) ∙ count
      in
      let end : at + length Z + length N + length B ≡ at + length (Z ++ (N ++ B)) =
      omega (arith, length-append Z (N ++ B), length-append N B)
      in
      sym (outline_go s at (sym begin ∙ begun-many s at (announced at (stands-front s at Z (N ++ B) e))))
      ∙ rings-back ls most_corners (at + length Z + length N) r.each r.most (omega arith) (stands-back s (at + length Z) N B after)
      ∙ ap (read ls) end

  outline-by : (ls : List (List ℕ)) (at : ℕ) → Rings ls → Stands s at (figure_bytes ls) → outline s at ≡ read ls (at + length (figure_bytes ls))
  unfolding figure_bytes
  outline-by [] at r e = absurd (not-suc-le-zero r.some)
  outline-by (l ∷ []) at r e = alone_back l at r e
  outline-by (a ∷ b ∷ ls) at r e = several_back (a ∷ b ∷ ls) at r (omega arith) e

  pub outline-back : (ls : List (List ℕ)) (at : ℕ) → Drawable (figure_of ls) → Stands s at (figure_bytes ls)
      → outline s at ≡ read ls (at + length (figure_bytes ls))
  outline-back ls at d e = outline-by ls at (drawn-rings ls d) e

-- where figures stand that are written one after another from a place on
abbrev pub parts_of : ℕ → List (List (List ℕ)) → List Part
parts_of at [] = []
parts_of at (ls ∷ fs) =
    record { start = at; end = at + length (figure_bytes ls); rings = ls } ∷ parts_of (at + length (figure_bytes ls)) fs

module _ (s : List ℕ) where
  part-back : (ls : List (List ℕ)) (at : ℕ) → Drawable (figure_of ls) → Stands s at (figure_bytes ls)
      → part s at ≡ read (record { start = at; end = at + length (figure_bytes ls); rings = ls }) (at + length (figure_bytes ls))
  unfolding part
  part-back ls at d e = then_same (λ ls next. read (record { start = at; end = next; rings = ls }) next) (outline-back s ls at d e)

  pub outlines-back : (fs : List (List (List ℕ))) (at : ℕ) → ((k : ℕ) → k < length fs → Drawable (figure_of (get_or fs k [])))
      → Stands s at (outlines_bytes fs) → outlines s (length fs) at ≡ read (parts_of at fs) (at + length (outlines_bytes fs))
  unfolding outlines outlines_bytes many
  outlines-back [] at d e = ap (read []) (sym (add-zero at))
  outlines-back (ls ∷ fs) at d e =
      let here = part-back ls at (d 0 (omega arith)) (stands-front s at (figure_bytes ls) (outlines_bytes fs) e) in
      let rest =
      outlines-back fs (at + length (figure_bytes ls)) (λ k h. d (suc k) (suc-le-suc h))
      (stands-back s at (figure_bytes ls) (outlines_bytes fs) e)
      in
      many-cons (part s) at (length fs) here rest
      ∙ ap (read (parts_of at (ls ∷ fs))) (past-both at (figure_bytes ls) (outlines_bytes fs))

  pub header-back : (t w k : ℕ) → t ≤ limit → w ≤ limit → k ≤ most_outlines → Stands s 0 (header_bytes t w k)
      → header s ≡ read (record { threshold = t; weight = w; count = k }) (length (header_bytes t w k))
  unfolding header_bytes
  header-back t w k ht hw hk e =
      let T : List ℕ = number_bytes t in
      let W : List ℕ = number_bytes w in
      let K : List ℕ = number_bytes k in
      let a = value-back s 0 limit 0 t (omega arith) ht (omega arith) (stands-front s 0 T (W ++ K) e) in
      let r = stands-back s 0 T (W ++ K) e in
      let b = value-back s 0 limit (0 + length T) w (omega arith) hw (omega arith) (stands-front s (0 + length T) W K r) in
      let c = value-back s 0 most_outlines (0 + length T + length W) k (omega arith) hk (omega arith) (stands-back s (0 + length T) W K r) in
      let n : 0 + length T + length W + length K ≡ length (T ++ (W ++ K)) = simp length-append (omega arith) in
      sym (header_read s (sym a) (sym b) (sym c)) ∙ ap (read (record { threshold = t; weight = w; count = k })) n

-- a job as it is written
pub record Writable (t w : ℕ) (fs : List (List (List ℕ))) : Type 0 where
  pub threshold : t ≤ limit
  pub weight : w ≤ limit
  pub count : length fs ≤ most_outlines
  pub outlines : (k : ℕ) → k < length fs → Drawable (figure_of (get_or fs k []))
  pub short : length (job_bytes t w fs) ≤ most_bytes

pub job-back : (t w : ℕ) (fs : List (List (List ℕ))) → Writable t w fs
    → job (job_bytes t w fs)
    ≡ read (record { threshold = t; weight = w; parts = parts_of (length (header_bytes t w (length fs))) fs }) (length (job_bytes t w fs))
unfolding job_bytes
job-back t w fs ok =
    let H : List ℕ = header_bytes t w (length fs) in
    let O : List ℕ = outlines_bytes fs in
    let s : List ℕ = H ++ O in
    let e = stands-whole s in
    let zero_more : 0 + length H ≡ length H = omega arith in
    let all : length H + length O ≡ length s = sym (length-append H O) in
    let h = header-back s t w (length fs) ok.threshold ok.weight ok.count (stands-front s 0 H O e) in
    let o =
    outlines-back s fs (length H) ok.outlines
    (subst (λ n. Stands s n O) zero_more (stands-back s 0 H O e))
    in
    job-made s ok.short (sym h) (o ∙ ap (read (parts_of (length H) fs)) all) (omega arith)

-- what is read is what would be written

-- the bytes b stand at a place, and the next place is past them
abbrev pub Here : List ℕ → ℕ → List ℕ → ℕ → Type 0
Here s at b next = Stands s at b × (next ≡ at + length b)

here-none : (s : List ℕ) (at : ℕ) → Here s at [] at
here-none s at = (refl, sym (add-zero at))

here-join : (s : List ℕ) (at : ℕ) (a b : List ℕ) {m next : ℕ} → Here s at a m → Here s m b next → Here s at (a ++ b) next
here-join s at a b h k =
    (stands-join s at a b h.0 (subst (λ n. Stands s n b) h.1 k.0), omega (arith, h.1, k.1, length-append a b))

-- the byte 0 that announces rings
zero-here : (s : List ℕ) (at : ℕ) → (at < length s) × (get_or s at 0 ≡ 0) → Here s at (number_bytes 0) (at + 1)
zero-here s at h =
    let one = bytes_one 0 (omega arith) in
    subst (λ (b : List ℕ). Here s at b (at + 1)) (sym one) (stands_one s at h.0 ∙ ap (λ v. v ∷ []) h.1, refl)
  where
    stands_one : (s : List ℕ) (at : ℕ) → at < length s → take 1 (drop at s) ≡ get_or s at 0 ∷ []
    stands_one s at h = rw (drop-cons s at 0 h)

-- the figures that a job says, each as its rings
abbrev pub figures : Job → List (List (List ℕ))
figures j = map (λ (p : Part). p.rings) j.parts

module _ (s : List ℕ) (bytes : AllBytes s) where
  pub value-only : (low high at : ℕ) {n next : ℕ} → value s low high at ≡ read n next → Here s at (number_bytes n) next
  value-only low high at e = let f = number-only s at bytes (value_read s low high at e).0 in (f.stands, f.onward)

  -- each coordinate's bytes, one after another
  Coordinates : ℕ → ℕ → ℕ → List ℕ → Type 0
  Coordinates n at next l = Here s at (coordinate_bytes l) next × (length l ≡ n) × All (λ v. v ≤ most_place) l

  coordinates-only : (n at : ℕ) {l : List ℕ} {next : ℕ} → coordinates s n at ≡ read l next → Coordinates n at next l
  unfolding coordinates coordinate_bytes many Coordinates
  coordinates-only zero at {l} {next} e =
      let a : [] ≡ l = cc in
      let b : at ≡ next = cc in
      subst (λ (k : List ℕ). Coordinates 0 at next k) a (subst (λ m. Coordinates 0 at m []) b (here-none s at, refl, tt))
  coordinates-only (suc n) at {l} {next} e =
      let i = many-first (value s 0 most_place) n at e in
      let rest = coordinates-only n i.1 i.4 in
      subst (λ (k : List ℕ). Coordinates (suc n) at next k) (sym i.5) (
        here-join s at (number_bytes i.0) (coordinate_bytes i.2) (value-only 0 most_place at i.3) rest.0,
        ap suc rest.1,
        ((value_read s 0 most_place at i.3).2, rest.2),
      )

  -- a ring that is read can be written, and its bytes are those
  pub ring-only : (high at : ℕ) {l : List ℕ} {next : ℕ} → ring s high at ≡ read l next → Here s at (ring_bytes l) next × Ring l
  unfolding ring_bytes Coordinates
  ring-only high at {l} {next} e =
      let i = ring_inv s high at e in
      let k = ring_long s high at e in
      let c = coordinates-only (2 * i.0) i.1 i.3 in
      let v : i.0 ≡ length l / 2 = omega (arith, c.1) in (
        subst (λ n. Here s at (number_bytes n ++ coordinate_bytes l) next) v
            (here-join s at (number_bytes i.0) (coordinate_bytes l) (value-only 4 high at i.2) c.0),
        record { even = k.0; least = k.1; places = c.2 },
      )

  -- rings that are read, one after another, and no more corners than were left
  Row : ℕ → ℕ → ℕ → ℕ → List (List ℕ) → Type 0
  Row n left at next ls = Here s at (join ring_bytes ls) next × (length ls ≡ n) × All Ring ls × (total (figure_of ls) ≤ left)

  rings-only : (n left at : ℕ) {ls : List (List ℕ)} {next : ℕ} → rings_from s n left at ≡ read ls next → Row n left at next ls
  unfolding join sum_of Row
  rings-only zero left at {ls} {next} e =
      let z = rings-none s left at e in
      subst (λ (k : List (List ℕ)). Row 0 left at next k) z.0
      (subst (λ m. Row 0 left at m []) z.1 (here-none s at, refl, tt, omega arith))
  rings-only (suc n) left at {ls} {next} e =
      let i = rings-first s n left at e in
      let l : List ℕ = i.0 in
      let r = ring-only left at i.3 in
      let k = (ring_long s left at i.3).2 in
      let rest = rings-only n (left_after left l) i.1 i.4 in
      subst (λ (m : List (List ℕ)). Row (suc n) left at next m) (sym i.5) (
        here-join s at (ring_bytes l) (join ring_bytes i.2) r.0 rest.0,
        ap suc rest.1,
        (r.1, rest.2),
        omega (arith, k, rest.3),
      )

  several_only : (at : ℕ) {ls : List (List ℕ)} {r mid next : ℕ} → announces s at ≡ true → value s least_rings most_rings (at + 1) ≡ read r mid
      → rings_from s r most_corners mid ≡ read ls next → Here s at (figure_bytes ls) next × Drawable (figure_of ls)
  unfolding Row
  several_only at {ls} {r} {mid} {next} p f g =
      let v = value_read s least_rings most_rings (at + 1) f in
      let o = rings-only r most_corners mid g in
      let count : Here s (at + 1) (number_bytes (length ls)) mid =
      subst (λ n. Here s (at + 1) (number_bytes n) mid) (sym o.1) (value-only least_rings most_rings (at + 1) f)
      in
      let several : 2 ≤ length ls = omega (arith, v.1, o.1) in (
        subst (λ (b : List ℕ). Here s at b next) (sym (figure-many ls several))
            (here-join s at (number_bytes 0) (number_bytes (length ls) ++ join ring_bytes ls) (zero-here s at (announces_true s at p))
            (here-join s (at + 1) (number_bytes (length ls)) (join ring_bytes ls) count o.0)),
        rings-drawn ls (record { some = omega arith; few = omega (arith, v.2, o.1); each = o.2; most = o.3 }),
      )

  alone_only : (at : ℕ) {l : List ℕ} {next : ℕ} → ring s most_corners at ≡ read l next
      → Here s at (figure_bytes (l ∷ [])) next × Drawable (figure_of (l ∷ []))
  unfolding figure_bytes sum_of
  alone_only at {l} e =
      let o = ring-only most_corners at e in
      let k = (ring_long s most_corners at e).2 in
      (o.0, rings-drawn (l ∷ []) (record { some = omega arith; few = omega arith; each = (o.1, tt); most = omega (arith, k) }))

  -- a figure that is read can be written, and its bytes are those
  pub outline-only : (at : ℕ) {ls : List (List ℕ)} {next : ℕ} → outline s at ≡ read ls next
      → Here s at (figure_bytes ls) next × Drawable (figure_of ls)
  unfolding outline
  outline-only at {ls} {next} e = go (announces s at) refl e
    where
      go : (b : Bool) → announces s at ≡ b
          → cond b (and_then (value s least_rings most_rings (at + 1)) (λ r next. rings_from s r most_corners next))
          (and_then (ring s most_corners at) (λ l next. read (l ∷ []) next))
          ≡ read ls next
          → Here s at (figure_bytes ls) next × Drawable (figure_of ls)
      go true p f =
          let i = then_inv (λ r next. rings_from s r most_corners next) (value s least_rings most_rings (at + 1)) f in several_only at p i.2 i.3
      go false p f =
          let i = then_inv (λ l next. read (l ∷ []) next) (ring s most_corners at) f in
          let z : i.0 ∷ [] ≡ ls = cc in
          let y : i.1 ≡ next = cc in
          subst (λ (m : List (List ℕ)). Here s at (figure_bytes m) next × Drawable (figure_of m)) z
          (subst (λ n. Here s at (figure_bytes (i.0 ∷ [])) n × Drawable (figure_of (i.0 ∷ []))) y (alone_only at i.2))

  -- a figure of one ring stands as that ring alone: no other bytes are read as it
  pub one-ring : (at : ℕ) {l : List ℕ} {next : ℕ} → outline s at ≡ read (l ∷ []) next → Here s at (ring_bytes l) next
  unfolding figure_bytes
  one-ring at e = (outline-only at e).0

  -- the figures of some parts
  unfoldable pub Figures : ℕ → ℕ → ℕ → List Part → Type 0
  Figures n at next ps =
      Here s at (outlines_bytes (map (λ (p : Part). p.rings) ps)) next
      × ((k : ℕ) → k < length ps
      → Here s (get_or ps k no_part).start (figure_bytes (get_or ps k no_part).rings) (get_or ps k no_part).end
      × Drawable (figure_of (get_or ps k no_part).rings))

  figures-cons : (n at mid next : ℕ) (p : Part) (ps : List Part) → part s at ≡ read p mid → Figures n mid next ps
      → Figures (suc n) at next (p ∷ ps)
  unfolding outlines_bytes Figures
  figures-cons n at mid next p ps e rest =
      let r = part-read s at e in
      let o = outline-only at r.0 in
      (here-join s at (figure_bytes p.rings) (outlines_bytes (map (λ (p : Part). p.rings) ps)) o.0 rest.0, each o r.1 r.2)
    where
      each : Here s at (figure_bytes p.rings) mid × Drawable (figure_of p.rings) → p.start ≡ at → p.end ≡ mid → (k : ℕ) → k < length (p ∷ ps)
          → Here s (get_or (p ∷ ps) k no_part).start (figure_bytes (get_or (p ∷ ps) k no_part).rings) (get_or (p ∷ ps) k no_part).end
          × Drawable (figure_of (get_or (p ∷ ps) k no_part).rings)
      each o a b zero h =
          let here = subst (λ u. Here s at (figure_bytes p.rings) u) (sym b) o.0 in
          (subst (λ u. Here s u (figure_bytes p.rings) p.end) (sym a) here, o.1)
      each o a b (suc k) h = rest.1 k (le_of_suc-le-suc h)

  pub outlines-only : (n at : ℕ) {ps : List Part} {next : ℕ} → outlines s n at ≡ read ps next → Figures n at next ps
  unfolding outlines outlines_bytes many Figures
  outlines-only zero at {ps} {next} e =
      let a : [] ≡ ps = cc in
      let b : at ≡ next = cc in
      subst (λ (k : List Part). Figures 0 at next k) a
      (subst (λ m. Figures 0 at m []) b (here-none s at, λ k h. absurd (not-suc-le-zero h)))
  outlines-only (suc n) at {ps} {next} e =
      let i = many-first (part s) n at e in
      subst (λ (k : List Part). Figures (suc n) at next k) (sym i.5)
      (figures-cons n at i.1 next i.0 i.2 i.3 (outlines-only n i.1 i.4))

  pub header-only : {h : Header} {next : ℕ} → header s ≡ read h next
      → Here s 0 (header_bytes h.threshold h.weight h.count) next
  unfolding header header_bytes
  header-only {h} {next} e =
      let a = then_inv (heard s) (value s 0 limit 0) e in
      let b = then_inv (weighed s a.0) (value s 0 limit a.1) a.3 in
      let c = then_inv (counted s a.0 b.0) (value s 0 most_outlines b.1) b.3 in
      let made : Header = record { threshold = a.0; weight = b.0; count = c.0 } in
      let z : made ≡ h = cc in
      let y : c.1 ≡ next = cc in
      subst (λ (k : Header). Here s 0 (header_bytes k.threshold k.weight k.count) next) z
      (subst (λ n. Here s 0 (header_bytes a.0 b.0 c.0) n) y
      (here-join s 0 (number_bytes a.0) (number_bytes b.0 ++ number_bytes c.0) (value-only 0 limit 0 a.2)
      (here-join s a.1 (number_bytes b.0) (number_bytes c.0) (value-only 0 limit a.1 b.2) (value-only 0 most_outlines b.1 c.2))))

  -- writing anew what an accepted job says gives its bytes
  pub job_only : {j : Job} {last : ℕ} → job s ≡ read j last → s ≡ job_bytes j.threshold j.weight (figures j)
  unfolding job_bytes outlines Figures
  job_only {j} {last} e =
      let w = job-whole s e in
      let h : Header = w.head in
      let O : List ℕ = outlines_bytes (figures j) in
      let H : List ℕ = header_bytes h.threshold h.weight h.count in
      let all = here-join s 0 H O (header-only w.header_is) (outlines-only h.count w.first w.parts_are).0 in
      let n : h.count ≡ length (figures j) =
      sym (many-length (part s) h.count w.first w.parts_are) ∙ sym (length-map j.parts (λ (p : Part). p.rings))
      in
      sym (take_all (length (H ++ O)) s (omega (arith, w.ends, all.1)))
      ∙ all.0
      ∙ ap (λ k. header_bytes h.threshold h.weight k ++ O) n
      ∙ ap₂ (λ t u. header_bytes t u (length (figures j)) ++ O) (sym w.threshold-is) (sym w.weight_is)

  -- each part of an accepted job is its figure's bytes, and can be written
  pub part-only : {j : Job} {last : ℕ} → job s ≡ read j last → (k : ℕ) → k < length j.parts
      → Here s (get_or j.parts k no_part).start (figure_bytes (get_or j.parts k no_part).rings) (get_or j.parts k no_part).end
      × Drawable (figure_of (get_or j.parts k no_part).rings)
  unfolding Figures
  part-only e = let w = job-whole s e in (outlines-only w.head.count w.first w.parts_are).1

-- two accepted jobs that say the same are the same bytes
pub one_form : (s u : List ℕ) {j k : Job} {m n : ℕ} → AllBytes s → AllBytes u → job s ≡ read j m → job u ≡ read k n
    → j.threshold ≡ k.threshold → j.weight ≡ k.weight → figures j ≡ figures k → s ≡ u
one_form s u {j} {k} bs bu e f t w l =
    job_only s bs e ∙ ap₂ (λ a b. job_bytes a b (figures j)) t w ∙ ap (job_bytes k.threshold k.weight) l ∙ sym (job_only u bu f)

-- the calls on what is written

parts-length : (at : ℕ) (fs : List (List (List ℕ))) → length (parts_of at fs) ≡ length fs
parts-length at [] = refl
parts-length at (g ∷ fs) = ap suc (parts-length (at + length (figure_bytes g)) fs)

-- figure k of those written one after another stands where it is said to
parts-stand : (s : List ℕ) (fs : List (List (List ℕ))) (at k : ℕ) → Stands s at (outlines_bytes fs) → k < length fs
    → Here s (get_or (parts_of at fs) k no_part).start (figure_bytes (get_or fs k [])) (get_or (parts_of at fs) k no_part).end
unfolding outlines_bytes
parts-stand s [] at k e h = absurd (not-suc-le-zero h)
parts-stand s (g ∷ fs) at zero e h = (stands-front s at (figure_bytes g) (outlines_bytes fs) e, refl)
parts-stand s (g ∷ fs) at (suc k) e h =
    parts-stand s fs (at + length (figure_bytes g)) k (stands-back s at (figure_bytes g) (outlines_bytes fs) e) (le_of_suc-le-suc h)

here-taken : (s : List ℕ) (p : Part) (b : List ℕ) → Here s p.start b p.end → part_bytes s p ≡ b
here-taken s p b h = let n : p.end - p.start ≡ length b = omega (arith, h.1) in ap (λ m. take m (drop p.start s)) n ∙ h.0

-- checking a job that was written says what was written
pub written-checked : (t w : ℕ) (fs : List (List (List ℕ))) → Writable t w fs
    → checked (job_bytes t w fs) ≡ record { number = 0; threshold = t; weight = w; outlines = length fs; offset = 0 }
unfolding checked
written-checked t w fs ok =
    ap job_said (job-back t w fs ok)
    ∙ ap (λ n. record { number = 0; threshold = t; weight = w; outlines = n; offset = 0 }) (parts-length (length (header_bytes t w (length fs))) fs)

-- taking figure k of a job that was written gives the bytes of the figure that was written
pub written-taken : (t w : ℕ) (fs : List (List (List ℕ))) → Writable t w fs → (k : ℕ) → k < length fs
    → taken (job_bytes t w fs) k ≡ told 0 0 (figure_bytes (get_or fs k []))
unfolding taken job_bytes
written-taken t w fs ok k h =
    let H : List ℕ = header_bytes t w (length fs) in
    let O : List ℕ = outlines_bytes fs in
    let s : List ℕ = H ++ O in
    let ps : List Part = parts_of (length H) fs in
    let zero_more : 0 + length H ≡ length H = omega arith in
    let st = subst (λ n. Stands s n O) zero_more (stands-back s 0 H O (stands-whole s)) in
    let j : Job = record { threshold = t; weight = w; parts = ps } in
    let p : part_taken s k (read j (length s)) ≡ told 0 0 (part_bytes s (get_or ps k no_part)) =
    simp (lt-ltb k (length ps) (omega (arith, parts-length (length H) fs)))
    in
    ap (part_taken s k) (job-back t w fs ok)
    ∙ p
    ∙ ap (told 0 0) (here-taken s (get_or ps k no_part) (figure_bytes (get_or fs k [])) (parts-stand s fs (length H) k st h))

-- unpacking the bytes of a figure gives its two lists

figure-unpacked : (ls : List (List ℕ)) (l ns : List ℕ) → Drawable (figure_of ls) → unpacked (figure_bytes ls) l ns ≡ filled_by (figure_of ls) l ns
unfolding unpacked
figure-unpacked ls l ns d =
    let s : List ℕ = figure_bytes ls in
    let e : outline s 0 ≡ read ls (0 + length s) = outline-back s ls 0 d (stands-whole s) in
    ap (λ u. part_unpacked l ns (filled s u)) e ∙ ap (part_unpacked l ns) (filled-read s (omega arith))

fills : (f : Figure) (l ns : List ℕ) → length f.numbers ≤ length l → length f.lengths ≤ length ns
    → filled_by f l ns
    ≡ record {
      number = 0;
      corners = total f;
      rings = length f.lengths;
      offset = 0;
      list = f.numbers ++ drop (length f.numbers) l;
      lengths = f.lengths ++ drop (length f.lengths) ns;
    }
unfolding filled_by
fills f l ns h k = simp le-leb

pub written-unpacked : (f : Figure) (l ns : List ℕ) → Drawable f → length f.numbers ≤ length l → length f.lengths ≤ length ns
    → unpacked (figure_bytes (share f.lengths f.numbers)) l ns
    ≡ record {
      number = 0;
      corners = total f;
      rings = length f.lengths;
      offset = 0;
      list = f.numbers ++ drop (length f.numbers) l;
      lengths = f.lengths ++ drop (length f.lengths) ns;
    }
written-unpacked f l ns d h k =
    let same = share_back f d.good in
    figure-unpacked (share f.lengths f.numbers) l ns (subst Drawable (sym same) d)
    ∙ ap (λ (g : Figure). filled_by g l ns) same
    ∙ fills f l ns h k

-- and what an accepted job says of figure k is what taking and unpacking it give
pub said-taken : (s : List ℕ) {j : Job} {last : ℕ} → AllBytes s → job s ≡ read j last → (k : ℕ) → k < length j.parts
    → (taken s k ≡ told 0 0 (figure_bytes (get_or j.parts k no_part).rings)) × Drawable (figure_of (get_or j.parts k no_part).rings)
unfolding taken
said-taken s {j} {last} bs e k h =
    let o = part-only s bs e k h in
    let p : part_taken s k (read j last) ≡ told 0 0 (part_bytes s (get_or j.parts k no_part)) = simp lt-ltb in
    let q : Part = get_or j.parts k no_part in
    (ap (part_taken s k) e ∙ p ∙ ap (told 0 0) (here-taken s q (figure_bytes q.rings) o.0), o.1)

pub said-unpacked : (s : List ℕ) {j : Job} {last : ℕ} → AllBytes s → job s ≡ read j last → (k : ℕ) → k < length j.parts → (l ns : List ℕ)
    → unpacked (taken s k).part l ns ≡ filled_by (figure_of (get_or j.parts k no_part).rings) l ns
said-unpacked s {j} bs e k h l ns =
    let t = said-taken s bs e k h in
    ap (λ (u : TakeSaid). unpacked u.part l ns) t.0 ∙ figure-unpacked (get_or j.parts k no_part).rings l ns t.1
