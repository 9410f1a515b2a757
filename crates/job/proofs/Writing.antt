-- Laws of writing. Assumes nothing.
--
--   size-one, size-two, size-three == how many bytes a number has
--   put_one, put_two, put_three    == stores that put a number's bytes at a place
--   coordinates-more == the bytes of the coordinates from one on
--   sizes_more, put-room, put-more, put-done == the loops over the coordinates
--   written-room, written-fits == bytes that do not fit the buffer, and bytes that do
--   announced_nothing, announced-length, announced-put == what announces rings
--   figure-bytes     == a figure's bytes: what announces its rings, and the rings
--   ring-length, ring-put == a ring's bytes
--   rings-length     == how many bytes the rings have: those of all ring lengths, and those of all coordinates
--   Putting          == the state of the loop that puts rings: those put and those still to be put give what the whole gives
--   putting_start, putting_part, putting_short, putting_room, putting_more, putting_done == the loop's ways
--   header-.., outline-.. == the cases of `header_written` and `outline_written`
use Prim.Native.Nat.{ℕ, suc, ◌+◌, ◌-◌, ◌*◌, ◌/◌, ◌%◌, ◌<◌, ◌≤◌}
use mathlib.Core.Path.{◌≡◌, ◌∙◌, refl, sym, ap, ap₂}
use mathlib.Core.List.{List, [], ◌∷◌, ◌++◌, append_assoc, append-nil}
use mathlib.Core.Bool.{Bool, true, false, cond}
use native.Mathlib.Numerals.{add-one}
use native.Mathlib.Omega.{arith}
use lib.ListN.{length, get_or, take, drop, set, length-append, length-map, length-take, length-drop, take-append-drop, drop_of_length-le}
use lib.Seq.{sets, length-sets, drop-cons, length-take-le}
use borrow.Author.Tests.{le-leb, lt-leb, lt-ltb, le-ltb, eq-eqb, ne_eqb}
use Rattle.sum.specs.Sum.{sum_of, join}
use Rattle.sum.proofs.Lists.{sets_append, sets_front}
use Rattle.refusal.specs.declared.Refusal.{Refusal}
use Rattle.refusal.specs.declared.Refusal.TheVariants.{Rule, Length, Range, Room}
use Rattle.refusal.specs.Refusals.{refusal_no}
use Rattle.refusal.proofs.Refusals.{refusal-some}
use Rattle.number.specs.Number.{number_bytes}
use Rattle.number.proofs.Bytes.{bytes_one, bytes-two, bytes-three}
use Rattle.rule.specs.Rules.{Told, refused, given, in_range, rule_told}
use Rattle.figure.specs.Figure.{Figure, figure, share, most_corners, bad_figure}
use Rattle.figure.proofs.Fault.{rings-good}
use Rattle.job.specs.Bytes.{coordinate_bytes, header_bytes, ring_bytes, figure_bytes}
use Rattle.job.specs.Job.{most_outlines}
use Rattle.job.specs.Steps.{announce_bytes}
use Rattle.job.specs.Calls.{WriteSaid, unwritten, written_to, header_written, outline_written}
use Rattle.job.proofs.Rings.{sum_cons, share-cons, share_back}

-- a number

module _ (n : ℕ) where
  pub size-one : n < 128 → 1 ≡ length (number_bytes n)
  size-one h = sym (ap length (bytes_one n h))

  pub size-two : 128 ≤ n → n < 16384 → 2 ≡ length (number_bytes n)
  size-two h k = sym (ap length (bytes-two n h k))

  pub size-three : 16384 ≤ n → 3 ≡ length (number_bytes n)
  size-three h = sym (ap length (bytes-three n h))

  module _ (l : List ℕ) (at : ℕ) where
    pub put_one : n < 128 → (at + 1 ≡ at + length (number_bytes n)) × (set l at n ≡ sets l at (number_bytes n))
    put_one h = (ap (λ k. at + k) (size-one h), sym (ap (sets l at) (bytes_one n h)))

    pub put_two : 128 ≤ n → n < 16384
        → (at + 2 ≡ at + length (number_bytes n)) × (set (set l at (128 + n % 128)) (at + 1) (n / 128) ≡ sets l at (number_bytes n))
    put_two h k = (ap (λ k. at + k) (size-two h k), rw add-one (sym (ap (sets l at) (bytes-two n h k))))

    pub put_three : 16384 ≤ n
        → (at + 3 ≡ at + length (number_bytes n))
        × (set (set (set l at (128 + n % 128)) (at + 1) (128 + n / 128 % 128)) (at + 2) (n / 16384) ≡ sets l at (number_bytes n))
    put_three h =
        let e : at + 2 ≡ suc (suc at) = omega arith in
        (ap (λ k. at + k) (size-three h), rw (e, add-one) (sym (ap (sets l at) (bytes-three n h))))

-- coordinates

pub coordinates-more : (l : List ℕ) (i : ℕ) → i < length l
    → coordinate_bytes (drop i l) ≡ number_bytes (get_or l i 0) ++ coordinate_bytes (drop (i + 1) l)
unfolding coordinate_bytes
coordinates-more l i h = rw (add-one, drop-cons l i 0)

pub coordinates-done : (l : List ℕ) (i : ℕ) → length l ≤ i → coordinate_bytes (drop i l) ≡ []
unfolding coordinate_bytes
coordinates-done l i h = rw drop_of_length-le

-- the sizes of the coordinates from one on
pub sizes_more : (l : List ℕ) (i total w r T : ℕ) → w ≡ get_or l i 0 → r ≡ length (number_bytes w)
    → total + length (coordinate_bytes (drop i l)) ≡ T → i < length l → total + r + length (coordinate_bytes (drop (i + 1) l)) ≡ T
sizes_more l i total w r T e f g h =
    let b : r ≡ length (number_bytes (get_or l i 0)) = f ∙ ap (λ v. length (number_bytes v)) e in
    omega (arith, simp length-append at (ap length (coordinates-more l i h)))

pub put-room : (l : List ℕ) (i at w T m : ℕ) → w ≡ get_or l i 0 → at + length (coordinate_bytes (drop i l)) ≡ T → i < length l → T ≤ m
    → at + length (number_bytes w) ≤ m
put-room l i at w T m e f h k = omega (arith, sizes_more l i at w (length (number_bytes w)) T e refl f h)

-- one coordinate more is put, and what is still to be put gives what the whole gives
pub put-more : (l out done : List ℕ) (i at next w T : ℕ) (E : List ℕ) → w ≡ get_or l i 0
    → next ≡ at + length (number_bytes w) → done ≡ sets out at (number_bytes w)
    → at + length (coordinate_bytes (drop i l)) ≡ T → sets out at (coordinate_bytes (drop i l)) ≡ E → i < length l
    → (next + length (coordinate_bytes (drop (i + 1) l)) ≡ T) × (sets done next (coordinate_bytes (drop (i + 1) l)) ≡ E)
put-more l out done i at next w T E e n d f g h =
    let more : List ℕ = coordinate_bytes (drop (i + 1) l) in
    let b = ap number_bytes e in (
      ap (λ k. k + length more) n ∙ sizes_more l i at w (length (number_bytes w)) T e refl f h,
      ap₂ (λ (o : List ℕ) k. sets o k more) (d ∙ ap (sets out at) b) (n ∙ ap (λ (v : List ℕ). at + length v) b)
          ∙ sym (sets_append out at (number_bytes (get_or l i 0)) more)
          ∙ ap (sets out at) (sym (coordinates-more l i h))
          ∙ g,
    )

pub put-done : (l out : List ℕ) (i at : ℕ) (E : List ℕ) → sets out at (coordinate_bytes (drop i l)) ≡ E → length l ≤ i → out ≡ E
put-done l out i at E e h = sym (ap (sets out at) (coordinates-done l i h)) ∙ e

-- bytes at the front of a buffer

module _ (out b : List ℕ) (n : ℕ) (all : n ≡ length b) where
  pub written-room : length out < n → unwritten (refusal_no Room) out ≡ written_to out b
  written-room h = simp (lt-leb (length b) (length out) (omega arith))

  pub written-fits : (q : List ℕ) → n ≤ length out → q ≡ sets out 0 b → record { number = 0; bytes = n; out = q } ≡ written_to out b
  written-fits q h e =
      let said : ℕ → List ℕ → WriteSaid = λ k l. record { number = 0; bytes = k; out = l } in
      let p : said (length b) (b ++ drop (length b) out) ≡ written_to out b = simp (le-leb (length b) (length out) (omega arith)) in
      ap₂ said all (e ∙ sets_front out b (omega arith)) ∙ p

-- a header

pub header-length : (t w k : ℕ) {a b d : ℕ} → a ≡ length (number_bytes t) → b ≡ length (number_bytes w) → d ≡ length (number_bytes k)
    → a + b + d ≡ length (header_bytes t w k)
unfolding header_bytes
header-length t w k ea eb ed = simp length-append (omega arith)

module _ (t w k : ℕ) (out : List ℕ) where
  -- the rule's own refusal
  pub header-rule : (why : Refusal) → refused (refusal_no why) ≡ rule_told t w → unwritten (refusal_no why) out ≡ header_written t w k out
  unfolding header_written rule_told
  header-rule why e = go (in_range t w) _ e
    where
      go : (b : Bool) (said : WriteSaid)
          → refused (refusal_no why) ≡ cond b (given (record { threshold = t; weight = w })) (refused (refusal_no Rule))
          → unwritten (refusal_no why) out ≡ cond b said (unwritten (refusal_no Rule) out)
      go true said f =
          let z : refusal_no why ≡ 0 = ap (λ (t : Told). t.number) f in absurd (omega (arith, refusal-some why))
      go false said f = ap (λ (t : Told). unwritten t.number out) f

  module _ (e : in_range t w ≡ true) where
    pub header-many : most_outlines < k → unwritten (refusal_no Range) out ≡ header_written t w k out
    unfolding header_written
    header-many h = simp (e, lt-ltb)

    pub header-few : k ≤ most_outlines → written_to out (header_bytes t w k) ≡ header_written t w k out
    unfolding header_written
    header-few h = simp (e, le-ltb)

  -- threshold, weight and K put one after another
  pub header-put : (a b : ℕ) (o p q : List ℕ) → a ≡ 0 + length (number_bytes t) → o ≡ sets out 0 (number_bytes t)
      → b ≡ a + length (number_bytes w) → p ≡ sets o a (number_bytes w) → q ≡ sets p b (number_bytes k)
      → q ≡ sets out 0 (header_bytes t w k)
  unfolding header_bytes
  header-put a b o p q ea eo eb ep eq =
      eq
      ∙ ap₂ (λ (l : List ℕ) i. sets l i (number_bytes k))
      (ep ∙ ap₂ (λ (l : List ℕ) i. sets l i (number_bytes w)) eo ea)
      (eb ∙ ap (λ i. i + length (number_bytes w)) ea)
      ∙ sym (sets_append (sets out 0 (number_bytes t)) (0 + length (number_bytes t)) (number_bytes w) (number_bytes k))
      ∙ sym (sets_append out 0 (number_bytes t) (number_bytes w ++ number_bytes k))

module _ (t w k : ℕ) (out : List ℕ) (range : in_range t w ≡ true) {a b d : ℕ}
    (ea : a ≡ length (number_bytes t)) (eb : b ≡ length (number_bytes w)) (ed : d ≡ length (number_bytes k)) (few : k ≤ most_outlines) where
  pub header-room : length out < a + b + d → unwritten (refusal_no Room) out ≡ header_written t w k out
  header-room h = written-room out (header_bytes t w k) (a + b + d) (header-length t w k ea eb ed) h ∙ header-few t w k out range few

  pub header-fits : (q : List ℕ) → q ≡ sets out 0 (header_bytes t w k) → a + b + d ≤ length out
      → record { number = 0; bytes = a + b + d; out = q } ≡ header_written t w k out
  header-fits q e h =
      written-fits out (header_bytes t w k) (a + b + d) (header-length t w k ea eb ed) q h e ∙ header-few t w k out range few

-- what announces rings, and the rings

module _ (n : ℕ) where
  announced-one : n ≡ 1 → announce_bytes n ≡ []
  unfolding announce_bytes
  announced-one e = rw (eq-eqb n 1 e)

  -- one ring: nothing is put
  pub announced_nothing : n ≡ 1 → (out : List ℕ) → (0 ≡ length (announce_bytes n)) × (out ≡ sets out 0 (announce_bytes n))
  announced_nothing e out = (sym (ap length (announced-one e)), sym (ap (sets out 0) (announced-one e)))

  announced-many : (n ≡ 1 → ⊥) → announce_bytes n ≡ number_bytes 0 ++ number_bytes n
  unfolding announce_bytes
  announced-many d = rw (ne_eqb n 1 d)

  pub announced-length : (n ≡ 1 → ⊥) → length (announce_bytes n) ≡ length (number_bytes 0) + length (number_bytes n)
  announced-length d = ap length (announced-many d) ∙ length-append (number_bytes 0) (number_bytes n)

  pub announced-put : (n ≡ 1 → ⊥) → (out : List ℕ) (at last : ℕ) (o q : List ℕ) → at ≡ 0 + length (number_bytes 0) → o ≡ sets out 0 (number_bytes 0)
      → last ≡ at + length (number_bytes n) → q ≡ sets o at (number_bytes n)
      → (last ≡ length (announce_bytes n)) × (q ≡ sets out 0 (announce_bytes n))
  announced-put d out at last o q ea eo el eq = (
    omega (arith, el, ea, announced-length d),
    eq
        ∙ ap₂ (λ (m : List ℕ) i. sets m i (number_bytes n)) eo ea
        ∙ sym (sets_append out 0 (number_bytes 0) (number_bytes n))
        ∙ ap (sets out 0) (sym (announced-many d)),
  )

-- one ring has no announcement, and other rings have one
pub figure-bytes : (ls : List (List ℕ)) → figure_bytes ls ≡ announce_bytes (length ls) ++ join ring_bytes ls
unfolding figure_bytes announce_bytes join
figure-bytes [] = sym (append_assoc (number_bytes 0) (number_bytes 0) [])
figure-bytes (l ∷ []) = sym (append-nil (ring_bytes l))
figure-bytes (a ∷ b ∷ ls) =
    let n : ℕ = length (a ∷ b ∷ ls) in
    let B : List ℕ = join ring_bytes (a ∷ b ∷ ls) in
    sym (ap (λ (m : List ℕ). m ++ B) (announced-many n (λ e. omega arith)) ∙ append_assoc (number_bytes 0) (number_bytes n) B)

pub ring-put : (l out : List ℕ) (from v at last : ℕ) (o q : List ℕ) → at ≡ from + length (number_bytes v) → o ≡ sets out from (number_bytes v)
    → last ≡ at + length (coordinate_bytes l) → q ≡ sets o at (coordinate_bytes l) → v ≡ length l / 2
    → (last ≡ from + length (ring_bytes l)) × (q ≡ sets out from (ring_bytes l))
unfolding ring_bytes
ring-put l out from v at last o q ea eo el eq ev =
    let w = ap number_bytes ev in (
      el
          ∙ ap (λ k. k + length (coordinate_bytes l)) (ea ∙ ap (λ (b : List ℕ). from + length b) w)
          ∙ omega (arith, length-append (number_bytes (length l / 2)) (coordinate_bytes l)),
      eq
          ∙ ap₂ (λ (m : List ℕ) i. sets m i (coordinate_bytes l)) eo ea
          ∙ sym (sets_append out from (number_bytes v) (coordinate_bytes l))
          ∙ ap (λ (b : List ℕ). sets out from (b ++ coordinate_bytes l)) w,
    )

pub ring-length : (l : List ℕ) → length (ring_bytes l) ≡ length (number_bytes (length l / 2)) + length (coordinate_bytes l)
unfolding ring_bytes
ring-length l = length-append (number_bytes (length l / 2)) (coordinate_bytes l)

coordinates-append : (l m : List ℕ) → coordinate_bytes (l ++ m) ≡ coordinate_bytes l ++ coordinate_bytes m
unfolding coordinate_bytes
coordinates-append [] m = refl
coordinates-append (n ∷ l) m =
    ap (λ (b : List ℕ). number_bytes n ++ b) (coordinates-append l m) ∙ sym (append_assoc (number_bytes n) (coordinate_bytes l) (coordinate_bytes m))

-- the bytes of shared out rings are those of all ring lengths and of all coordinates
rings-size : (ns l : List ℕ) → length l ≡ 2 * sum_of (λ n. n) ns
    → length (join ring_bytes (share ns l)) ≡ length (coordinate_bytes ns) + length (coordinate_bytes l)
unfolding share join sum_of coordinate_bytes
rings-size [] [] h = refl
rings-size [] (u ∷ l) h = absurd (omega arith)
rings-size (n ∷ ns) l h =
    let r : List ℕ = take (2 * n) l in
    let rest : List ℕ = drop (2 * n) l in
    let i = rings-size ns rest (omega (arith, length-drop {A = ℕ} (2 * n) l)) in
    let v : length r / 2 ≡ n = omega (arith, length-take-le (2 * n) l (omega arith)) in
    let a = length-append (ring_bytes r) (join ring_bytes (share ns rest)) in
    let b = ring-length r ∙ ap (λ k. length (number_bytes k) + length (coordinate_bytes r)) v in
    let c = length-append (number_bytes n) (coordinate_bytes ns) in
    let d = ap (λ (m : List ℕ). length (coordinate_bytes m)) (sym (take-append-drop (2 * n) l))
    ∙ ap length (coordinates-append r rest)
    ∙ length-append (coordinate_bytes r) (coordinate_bytes rest)
    in omega (arith, a, b, c, d, i)

-- on the way through the rings: those put and those from the k-th on, whose numbers begin at from, give what the whole gives
pub record Putting (l ns before : List ℕ) (first from k at : ℕ) (out : List ℕ) : Type 0 where
  pub few : length l ≤ 2 * most_corners
  pub numbers : from + 2 * sum_of (λ n. n) (drop k ns) ≡ length l
  pub same : length out ≡ length before
  pub ends : at + length (join ring_bytes (share (drop k ns) (drop from l))) ≡ first + length (join ring_bytes (share ns l))
  pub all : sets out at (join ring_bytes (share (drop k ns) (drop from l))) ≡ sets before first (join ring_bytes (share ns l))

module _ (l ns before : List ℕ) (first : ℕ) where
  pub putting_start : bad_figure (figure l ns) ≡ false → Putting l ns before first 0 0 first before
  putting_start h =
      let g = rings-good (figure l ns) h in
      record { few = omega (arith, g.numbers, g.most); numbers = omega (arith, g.numbers); same = refl; ends = refl; all = refl }

  module _ (from k at : ℕ) (out : List ℕ) (p : Putting l ns before first from k at out) where
    module _ (n to : ℕ) (here : k < length ns) (long : n ≡ get_or ns k 0) (ends : to ≡ from + 2 * n) where
      pub putting_part : (from ≤ to) × (to ≤ length l)
      putting_part = (omega arith, omega (arith, p.numbers, sum_cons ns k here))

      pub putting_short : length (take (to - from) (drop from l)) ≤ 2 * most_corners
      putting_short = omega (arith, p.few, length-take (to - from) (drop from l), length-drop from l)

      this : List ℕ
      this = take (to - from) (drop from l)

      more : List ℕ
      more = join ring_bytes (share (drop (k + 1) ns) (drop to l))

      split : join ring_bytes (share (drop k ns) (drop from l)) ≡ ring_bytes this ++ more
      unfolding join this more
      split = ap (join ring_bytes) (share-cons ns k here l from n to long ends)

      pub putting_room : first + length (join ring_bytes (share ns l)) ≤ length before
          → at + length (ring_bytes (take (to - from) (drop from l))) ≤ length out
      unfolding this
      putting_room h = omega (arith, p.ends, p.same, ap length split, length-append (ring_bytes this) more)

      pub putting_more : (next : ℕ) (done : List ℕ) → next ≡ at + length (ring_bytes (take (to - from) (drop from l)))
          → done ≡ sets out at (ring_bytes (take (to - from) (drop from l))) → Putting l ns before first to (k + 1) next done
      unfolding this more
      putting_more next done e d =
          record {
            few = p.few;
            numbers = omega (arith, p.numbers, sum_cons ns k here);
            same = ap length d ∙ length-sets out at (ring_bytes this) ∙ p.same;
            ends = omega (arith, e, p.ends, ap length split, length-append (ring_bytes this) more);
            all =
                ap₂ (λ (o : List ℕ) i. sets o i more) d e
                ∙ sym (sets_append out at (ring_bytes this) more)
                ∙ ap (sets out at) (sym split)
                ∙ p.all;
          }

    pub putting_done : length ns ≤ k → out ≡ sets before first (join ring_bytes (share ns l))
    unfolding share join
    putting_done h = sym (ap (λ (m : List ℕ). sets out at (join ring_bytes (share m (drop from l)))) (drop_of_length-le ns {i = k} h)) ∙ p.all

-- a figure

pub rings-length : (f : Figure) → bad_figure f ≡ false → {b d : ℕ} → b ≡ length (coordinate_bytes f.lengths) → d ≡ length (coordinate_bytes f.numbers)
    → b + d ≡ length (join ring_bytes (share f.lengths f.numbers))
rings-length f good eb ed = ap₂ ◌+◌ eb ed ∙ sym (rings-size f.lengths f.numbers (rings-good f good).numbers)

module _ (f : Figure) (out : List ℕ) where
  -- its bytes
  abbrev bytes : List ℕ
  bytes = figure_bytes (share f.lengths f.numbers)

  pub outline_bad : bad_figure f ≡ true → unwritten (refusal_no Length) out ≡ outline_written f out
  unfolding outline_written
  outline_bad e = rw e

  module _ (good : bad_figure f ≡ false) where
    outline-good : written_to out bytes ≡ outline_written f out
    unfolding outline_written
    outline-good = rw good

    ring-count : length (share f.lengths f.numbers) ≡ length f.lengths
    ring-count = sym (length-map (share f.lengths f.numbers) (λ (m : List ℕ). length m / 2)) ∙ ap (λ (g : Figure). length g.lengths) (share_back f good)

    -- what announces the rings, and the rings
    two-parts : bytes ≡ announce_bytes (length f.lengths) ++ join ring_bytes (share f.lengths f.numbers)
    two-parts =
        figure-bytes (share f.lengths f.numbers)
        ∙ ap (λ n. announce_bytes n ++ join ring_bytes (share f.lengths f.numbers)) ring-count

    module _ {a b d : ℕ} (ea : a ≡ length (announce_bytes (length f.lengths))) (eb : b ≡ length (coordinate_bytes f.lengths))
        (ed : d ≡ length (coordinate_bytes f.numbers)) where
      outline-length : a + b + d ≡ length bytes
      outline-length =
          omega (
            arith,
            ea,
            rings-length f good eb ed,
            ap length two-parts,
            length-append (announce_bytes (length f.lengths)) (join ring_bytes (share f.lengths f.numbers)),
          )

      pub outline-room : length out < a + b + d → unwritten (refusal_no Room) out ≡ outline_written f out
      outline-room h = written-room out bytes (a + b + d) outline-length h ∙ outline-good

      pub outline-fits : (at : ℕ) (o q : List ℕ) → at ≡ length (announce_bytes (length f.lengths))
          → o ≡ sets out 0 (announce_bytes (length f.lengths)) → q ≡ sets o at (join ring_bytes (share f.lengths f.numbers))
          → a + b + d ≤ length out → record { number = 0; bytes = a + b + d; out = q } ≡ outline_written f out
      outline-fits at o q eat eo eq h =
          let A : List ℕ = announce_bytes (length f.lengths) in
          let R : List ℕ = join ring_bytes (share f.lengths f.numbers) in
          let put : q ≡ sets out 0 bytes =
          eq
          ∙ ap₂ (λ (m : List ℕ) i. sets m i R) eo eat
          ∙ ap (λ i. sets (sets out 0 A) i R) (let z : length A ≡ 0 + length A = omega arith in z)
          ∙ sym (sets_append out 0 A R)
          ∙ ap (sets out 0) (sym two-parts)
          in written-fits out bytes (a + b + d) outline-length q h put ∙ outline-good
