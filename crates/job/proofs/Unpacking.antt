-- Laws of unpacking. Assumes nothing.
--
--   no_fault         == an answer is a number where what it tells of is no fault
--   sets_all         == a run of stores that fills a list
--   values_more      == the numbers read from one on
--   Storing          == the state of the loop that stores coordinates: what is stored and what is still to be read give the whole
--   storing_start, storing_more, storing_never, storing_done == the loop's ways
--   part_stored      == a part of a list that is stored to
--   ring_never, ring-reads, ring-room, ring-long, ring-stored == a ring that is known to read well, by its V
--   Filling          == the state of the loop that stores rings, of both lists
--   filling_start, filling_ring, filling_room, filling_few, filling_more, filling_done == the loop's ways
--   lengths-long     == as many lengths as rings
--   shown-numbers, shown-lengths, shown-reads == the rings that are stored: how many numbers and lengths, and that they are read
--   unpacked-..      == the cases of `unpacked`
use Prim.Native.Nat.{ℕ, zero, suc, ◌+◌, ◌-◌, ◌*◌, ◌/◌, ◌<◌, ◌≤◌}
use mathlib.Core.Path.{◌≡◌, ◌∙◌, refl, sym, ap, ap₂, subst}
use mathlib.Core.List.{List, ◌∷◌, ◌++◌, map, append_assoc, append-nil}
use mathlib.Core.Bool.{and-false}
use native.Mathlib.Nat.{sub-zero}
use native.Mathlib.Numerals.{add-one}
use native.Mathlib.Omega.{arith}
use lib.ListN.{length, take, drop, set, length-set, length-append, length-map, drop_of_length-le}
use lib.Seq.{sets, length-sets, sets-eq, drop-drop}
use borrow.Rule.Slice.PartMut.{put_mid}
use borrow.Author.Tests.{le-leb, lt-leb}
use Rattle.std.specs.Prelude.{Result, Ok, Err, IsOk}
use Rattle.sum.specs.Sum.{sum_of, join}
use Rattle.sum.proofs.Lists.{sets_append, sets_front}
use Rattle.refusal.specs.declared.Refusal.{Refusal}
use Rattle.refusal.specs.declared.Refusal.TheVariants.{Extra, Room}
use Rattle.refusal.specs.declared.Fault.{Fault}
use Rattle.refusal.specs.Refusals.{refusal_no}
use Rattle.number.specs.declared.Read.{Read}
use Rattle.number.specs.Number.{read_told}
use Rattle.number.specs.Reading.{Reading, read, fault, and_then, many, past}
use Rattle.figure.specs.Figure.{most_corners, most_place, total}
use Rattle.number.proofs.Reading.{one_less, many_go, many-fault, many-length, many-more-left}
use Rattle.job.specs.Job.{left_after, value, coordinates, ring, rings_from, outline, figure_of, filled}
use Rattle.job.specs.Steps.{begun, sized, summed, IsRead, values_of, numbers_of, lengths_of}
use Rattle.job.specs.Calls.{UnpackSaid, unfilled, filled_by, part_unpacked, unpacked}
use Rattle.job.proofs.Job.{told-read, ring-fault, ring_go, ring_long, ring-sized, rings_go, rings-first, rings-none, rings-length, outline-fault, outline_go, outline-rings, filled_extra, filled-read}

-- the numbers read from one on

module _ (f : ℕ → Reading ℕ) (n at : ℕ) where
  pub values_more : {v next : ℕ} → read v next ≡ f at → IsRead (many f (suc n) at)
      → IsRead (many f n next) × (values_of (many f (suc n) at) ≡ v ∷ values_of (many f n next))
  values_more {v} {next} e h =
      let p = many_go f at n (sym e) in
      let q = go (many f n next) (subst IsRead p h) in
      (q.0, ap values_of p ∙ q.1)
    where
      go : (u : Reading (List ℕ)) → IsRead (and_then u (λ l last. read (v ∷ l) last))
          → IsRead u × (values_of (and_then u (λ l last. read (v ∷ l) last)) ≡ v ∷ values_of u)
      go (read l last) k = (tt, refl)
      go (fault r p) k = absurd k

  pub values_never : {r : Refusal} {p : ℕ} → fault r p ≡ f at → IsRead (many f (suc n) at) → ⊥
  values_never e h = subst IsRead (many-fault f at n (sym e)) h

-- what is read is something
is_read : {A : Type 0} (u : Reading A) → IsRead u → (a : A) × (last : ℕ) × (u ≡ read a last)
is_read (read a last) h = (a, last, refl)
is_read (fault r p) h = absurd h

-- an answer is a number where what it tells of is no fault
pub no_fault : (u : Result Read Fault) {v : Reading ℕ} → read_told u ≡ v → ((r : Refusal) (p : ℕ) → fault r p ≡ v → ⊥) → IsOk u
no_fault (Ok r) e never = refl
no_fault (Err d) e never = absurd (never d.why d.at e)

-- a run of stores that fills a list
pub sets_all : (l u : List ℕ) → length u ≡ length l → sets l 0 u ≡ u
sets_all l u e =
    sets_front l u (omega arith) ∙ ap (λ (d : List ℕ). u ++ d) (drop_of_length-le l (omega arith)) ∙ append-nil u

-- storing

-- on the way: the numbers stored and those still to be read give what the whole gives
pub record Storing (s : List ℕ) (n from : ℕ) (before : List ℕ) (i at : ℕ) (list : List ℕ) : Type 0 where
  pub most : i ≤ n
  pub same : length list ≡ length before
  pub reads : IsRead (coordinates s (n - i) at)
  pub ends : past (coordinates s n from) ≡ past (coordinates s (n - i) at)
  pub all : sets list i (values_of (coordinates s (n - i) at)) ≡ sets before 0 (values_of (coordinates s n from))

module _ (s : List ℕ) (n from : ℕ) (before : List ℕ) where
  pub storing_start : IsRead (coordinates s n from) → Storing s n from before 0 from before
  storing_start h = record { most = omega arith; same = refl; reads = rw sub-zero h; ends = rw sub-zero; all = rw sub-zero }

  module _ (i at : ℕ) (list : List ℕ) (h : Storing s n from before i at list) where
    module _ (k : i < n) where
      still : IsRead (coordinates s (suc (n - (i + 1))) at)
      still = subst (λ m. IsRead (coordinates s m at)) (one_less n i k) h.reads

      pub storing_never : {r : Refusal} {p : ℕ} → fault r p ≡ value s 0 most_place at → ⊥
      unfolding coordinates
      storing_never e = values_never (value s 0 most_place) (n - (i + 1)) at e still

      pub storing_more : {v next : ℕ} → read v next ≡ value s 0 most_place at → Storing s n from before (i + 1) next (set list i v)
      unfolding coordinates
      storing_more {v} {next} e =
          let m = values_more (value s 0 most_place) (n - (i + 1)) at e still in
          let rest : List ℕ = values_of (coordinates s (n - (i + 1)) next) in
          record {
            most = omega arith;
            same = length-set list i v ∙ h.same;
            reads = m.0;
            ends = h.ends ∙ many-more-left (value s 0 most_place) at n i k (ap past e);
            all =
                ap (λ j. sets (set list i v) j rest) (add-one i)
                ∙ sym (ap (sets list i) (ap (λ j. values_of (coordinates s j at)) (one_less n i k) ∙ m.1))
                ∙ h.all;
          }

    pub storing_done : n ≤ i → length before ≡ n → IsRead (coordinates s n from)
        → (read tt at ≡ past (coordinates s n from)) × (list ≡ values_of (coordinates s n from))
    unfolding coordinates many
    storing_done k long good =
        let e : n - i ≡ 0 = omega arith in
        let u = is_read (coordinates s n from) good in
        let vs : List ℕ = values_of (coordinates s n from) in
        let m : length vs ≡ n = ap (λ w. length (values_of w)) u.2 ∙ many-length (value s 0 most_place) n from u.2 in (
          sym (h.ends ∙ ap (λ j. past (coordinates s j at)) e),
          sym (ap (λ j. sets list i (values_of (coordinates s j at))) e)
              ∙ h.all
              ∙ sets_all before vs (omega arith),
        )

-- a part of a list that is stored to
pub part_stored : (l ys : List ℕ) (a n : ℕ) → length ys ≡ n → a + n ≤ length l → put_mid a (a + n - a) l ys ≡ sets l a ys
part_stored l ys a n e h =
    let z : a + n - a ≡ length ys = omega arith in
    ap (λ k. put_mid a k l ys) z
    ∙ ap (λ (d : List ℕ). take a l ++ (ys ++ d)) (drop-drop (length ys) a l)
    ∙ sym (sets-eq ys l a (omega arith) ∙ append_assoc (take a l) ys (drop (a + length ys) l))

-- a ring

module _ (s : List ℕ) (most at : ℕ) (h : IsRead (ring s most at)) where
  pub ring_never : {r : Refusal} {p : ℕ} → fault r p ≡ value s 4 most at → ⊥
  ring_never e = subst IsRead (sym (ring-fault s most at e)) h

  module _ {v next : ℕ} (e : read v next ≡ value s 4 most at) where
    pub ring-reads : IsRead (coordinates s (2 * v) next)
    ring-reads = subst IsRead (sym (ring_go s most at e)) h

    pub ring-room : (to room : ℕ) → to + length (values_of (ring s most at)) ≤ room → to + 2 * v ≤ room
    unfolding coordinates
    ring-room to room k =
        let u = is_read (coordinates s (2 * v) next) ring-reads in
        let n = many-length (value s 0 most_place) (2 * v) next u.2 in
        let m = ap (λ w. length (values_of w)) (sym (ring_go s most at e) ∙ u.2) in
        omega (arith, n, m)

    pub ring-long : length (values_of (coordinates s (2 * v) next)) ≡ 2 * v
    unfolding coordinates
    ring-long =
        let u = is_read (coordinates s (2 * v) next) ring-reads in
        ap (λ w. length (values_of w)) u.2 ∙ many-length (value s 0 most_place) (2 * v) next u.2

    pub ring-stored : (l : List ℕ) (to : ℕ) → sets l to (values_of (coordinates s (2 * v) next)) ≡ sets l to (values_of (ring s most at))
    ring-stored l to = ap (λ u. sets l to (values_of u)) (ring_go s most at e)

-- rings

-- the first of some rings, and those after it
module _ (s : List ℕ) (n left at : ℕ) (h : IsRead (rings_from s (suc n) left at)) where
  first_reads : IsRead (ring s left at)
  first_reads = let u = is_read (rings_from s (suc n) left at) h in subst IsRead (sym (rings-first s n left at u.2).3) tt

  first-cons : {l : List ℕ} {next : ℕ} → ring s left at ≡ read l next
      → IsRead (rings_from s n (left_after left l) next)
      × (values_of (rings_from s (suc n) left at) ≡ l ∷ values_of (rings_from s n (left_after left l) next))
  first-cons {l} {next} e =
      let p = rings_go s n left at e in
      let q = go (rings_from s n (left_after left l) next) (subst IsRead p h) in
      (q.0, ap values_of p ∙ q.1)
    where
      go : (u : Reading (List (List ℕ))) → IsRead (and_then u (λ ls last. read (l ∷ ls) last))
          → IsRead u × (values_of (and_then u (λ ls last. read (l ∷ ls) last)) ≡ l ∷ values_of u)
      go (read ls last) k = (tt, refl)
      go (fault r p) k = absurd k

-- on the way: the rings stored and those still to be read give what the whole gives, in both lists
pub record Filling (s : List ℕ) (n from : ℕ) (before counts : List ℕ) (total k at : ℕ) (list lengths : List ℕ) : Type 0 where
  pub most : k ≤ n
  pub few : total ≤ most_corners
  pub same-list : length list ≡ length before
  pub same-lengths : length lengths ≡ length counts
  pub reads : IsRead (rings_from s (n - k) (most_corners - total) at)
  pub room : 2 * total + length (numbers_of (rings_from s (n - k) (most_corners - total) at)) ≤ length before
  pub numbers : sets list (2 * total) (numbers_of (rings_from s (n - k) (most_corners - total) at))
      ≡ sets before 0 (numbers_of (rings_from s n most_corners from))
  pub corners : sets lengths k (lengths_of (rings_from s (n - k) (most_corners - total) at))
      ≡ sets counts 0 (lengths_of (rings_from s n most_corners from))

module _ (s : List ℕ) (n from : ℕ) (before counts : List ℕ) where
  pub filling_start : IsRead (rings_from s n most_corners from) → length (numbers_of (rings_from s n most_corners from)) ≤ length before
      → Filling s n from before counts 0 0 from before counts
  filling_start h k =
      record {
        most = omega arith;
        few = omega arith;
        same-list = refl;
        same-lengths = refl;
        reads = rw sub-zero h;
        room = rw sub-zero (omega arith);
        numbers = rw sub-zero;
        corners = rw sub-zero;
      }

  module _ (total k at : ℕ) (list lengths : List ℕ) (h : Filling s n from before counts total k at list lengths) where
    module _ (here : k < n) where
      left : ℕ
      left = most_corners - total

      still-rings : IsRead (rings_from s (suc (n - (k + 1))) left at)
      unfolding left
      still-rings = subst (λ m. IsRead (rings_from s m (most_corners - total) at)) (one_less n k here) h.reads

      -- the rings still to be read, as the first and those after it
      split : {l : List ℕ} {next : ℕ} → ring s left at ≡ read l next
          → values_of (rings_from s (n - k) (most_corners - total) at) ≡ l ∷ values_of (rings_from s (n - (k + 1)) (left_after left l) next)
      unfolding left
      split e = ap (λ m. values_of (rings_from s m (most_corners - total) at)) (one_less n k here) ∙ (first-cons s (n - (k + 1)) left at still-rings e).1

      pub filling_ring : IsRead (ring s (most_corners - total) at)
      unfolding left
      filling_ring = first_reads s (n - (k + 1)) left at still-rings

      pub filling_room : 2 * total + length (values_of (ring s (most_corners - total) at)) ≤ length list
      unfolding left join
      filling_room =
          let u = is_read (ring s left at) filling_ring in
          let more : List (List ℕ) = values_of (rings_from s (n - (k + 1)) (left_after left u.0) u.1) in
          let e = ap (λ ls. length (join (λ (l : List ℕ). l) ls)) (split u.2) in
          let a = length-append u.0 (join (λ (l : List ℕ). l) more) in
          let b = ap (λ w. length (values_of w)) u.2 in
          omega (arith, e, a, b, h.room, h.same-list)

      module _ {v next : ℕ} (told : read v next ≡ sized (ring s (most_corners - total) at)) where
        pub filling_few : (v ≤ most_corners) × (total + v ≤ most_corners)
        filling_few = let u = ring-sized s (most_corners - total) at told in let f = h.few in (omega (arith, u.4), omega (arith, u.4))

        pub filling_more : (done noted : List ℕ) → done ≡ sets list (2 * total) (values_of (ring s (most_corners - total) at)) → noted ≡ set lengths k v
            → Filling s n from before counts (total + v) (k + 1) next done noted
        unfolding left join
        filling_more done noted ed en =
            let u = ring-sized s (most_corners - total) at told in
            let l : List ℕ = u.0 in
            let f = h.few in
            let z : left_after (most_corners - total) l ≡ most_corners - (total + v) = omega (arith, u.3) in
            let rest : ℕ → Reading (List (List ℕ)) = λ m. rings_from s (n - (k + 1)) m next in
            let more : List (List ℕ) = values_of (rest (most_corners - (total + v))) in
            let e : values_of (rings_from s (n - k) (most_corners - total) at) ≡ l ∷ more = split u.1 ∙ ap (λ m. l ∷ values_of (rest m)) z in
            let d : done ≡ sets list (2 * total) l = ed ∙ ap (λ w. sets list (2 * total) (values_of w)) u.1 in
            let place : 2 * (total + v) ≡ 2 * total + length l = omega (arith, u.2) in
            let size = ap (λ ls. length (join (λ (l : List ℕ). l) ls)) e in
            record {
              most = omega arith;
              few = omega (arith, u.4);
              same-list = ap length d ∙ length-sets list (2 * total) l ∙ h.same-list;
              same-lengths = ap length en ∙ length-set lengths k v ∙ h.same-lengths;
              reads = subst (λ m. IsRead (rest m)) z (first-cons s (n - (k + 1)) left at still-rings u.1).0;
              room = omega (arith, h.room, size, length-append l (join (λ (l : List ℕ). l) more), place);
              numbers =
                  ap₂ (λ (o : List ℕ) i. sets o i (join (λ (l : List ℕ). l) more)) d place
                  ∙ sym (sets_append list (2 * total) l (join (λ (l : List ℕ). l) more))
                  ∙ ap (λ ls. sets list (2 * total) (join (λ (l : List ℕ). l) ls)) (sym e)
                  ∙ h.numbers;
              corners =
                  ap₂ (λ (o : List ℕ) i. sets o i (map (λ (l : List ℕ). length l / 2) more)) (en ∙ ap (set lengths k) (sym u.3)) (add-one k)
                  ∙ ap (λ ls. sets lengths k (map (λ (l : List ℕ). length l / 2) ls)) (sym e)
                  ∙ h.corners;
            }

    pub filling_done : n ≤ k → (list ≡ sets before 0 (numbers_of (rings_from s n most_corners from)))
        × (lengths ≡ sets counts 0 (lengths_of (rings_from s n most_corners from)))
    unfolding rings_from join
    filling_done d =
        let e : n - k ≡ 0 = omega arith in (
          sym (ap (λ j. sets list (2 * total) (numbers_of (rings_from s j (most_corners - total) at))) e) ∙ h.numbers,
          sym (ap (λ j. sets lengths k (lengths_of (rings_from s j (most_corners - total) at))) e) ∙ h.corners,
        )

-- as many lengths as rings
pub lengths-long : (s : List ℕ) (n left at : ℕ) → IsRead (rings_from s n left at) → length (lengths_of (rings_from s n left at)) ≡ n
lengths-long s n left at h =
    let u = is_read (rings_from s n left at) h in
    ap (λ w. length (lengths_of w)) u.2 ∙ length-map u.0 (λ (l : List ℕ). length l / 2) ∙ rings-length s n left at u.2

-- the cases of `unpacked`

-- rings that are read have two numbers for each corner
rings-even : (s : List ℕ) (n left at : ℕ) {ls : List (List ℕ)} {last : ℕ} → rings_from s n left at ≡ read ls last
    → length (figure_of ls).numbers ≡ 2 * total (figure_of ls)
unfolding join sum_of
rings-even s zero left at e = ap (λ ls. length (figure_of ls).numbers) (sym (rings-none s left at e).0) ∙ ap (λ ls. 2 * total (figure_of ls)) (rings-none s left at e).0
rings-even s (suc n) left at {ls} e =
    let i = rings-first s n left at e in
    let r = ring_long s left at i.3 in
    let rest = rings-even s n (left_after left i.0) i.1 i.4 in
    let here : length (figure_of (i.0 ∷ i.2)).numbers ≡ 2 * total (figure_of (i.0 ∷ i.2)) =
    omega (arith, r.0, rest, length-append i.0 (join (λ (l : List ℕ). l) i.2))
    in subst (λ ms. length (figure_of ms).numbers ≡ 2 * total (figure_of ms)) (sym i.5) here

-- the rings of which their corners are told
module _ (s : List ℕ) (n first : ℕ) {m last : ℕ} (f : read m last ≡ summed (rings_from s n most_corners first)) where
  shown : (ls : List (List ℕ)) × (rings_from s n most_corners first ≡ read ls last) × (total (figure_of ls) ≡ m)
  unfolding summed
  shown = told-read (λ ls. total (figure_of ls)) (rings_from s n most_corners first) f

  pub shown-reads : IsRead (rings_from s n most_corners first)
  shown-reads = subst IsRead (sym shown.1) tt

  -- how long the two lists are
  pub shown-numbers : length (numbers_of (rings_from s n most_corners first)) ≡ 2 * m
  shown-numbers =
      ap (λ u. length (numbers_of u)) shown.1 ∙ rings-even s n most_corners first shown.1 ∙ ap (λ k. 2 * k) shown.2

  pub shown-lengths : length (lengths_of (rings_from s n most_corners first)) ≡ n
  shown-lengths =
      ap (λ u. length (lengths_of u)) shown.1
      ∙ length-map shown.0 (λ (r : List ℕ). length r / 2)
      ∙ rings-length s n most_corners first shown.1

module _ (s l ns : List ℕ) where
  from : {u : Reading (List (List ℕ))} → u ≡ outline s 0 → part_unpacked l ns (filled s u) ≡ unpacked s l ns
  unfolding unpacked
  from e = ap (λ u. part_unpacked l ns (filled s u)) e

  pub unpacked-begun : {r : Refusal} {p : ℕ} → fault r p ≡ begun s 0 → unfilled (refusal_no r) p l ns ≡ unpacked s l ns
  unfolding filled
  unpacked-begun e = from (outline-fault s 0 e)

  module _ {n first : ℕ} (e : read n first ≡ begun s 0) where
    pub unpacked-rings : {r : Refusal} {p : ℕ} → fault r p ≡ summed (rings_from s n most_corners first)
        → unfilled (refusal_no r) p l ns ≡ unpacked s l ns
    unfolding filled
    unpacked-rings f = from (outline-rings s 0 e f)

    module _ {m last : ℕ} (f : read m last ≡ summed (rings_from s n most_corners first)) where
      pub unpacked_extra : last < length s → unfilled (refusal_no Extra) last l ns ≡ unpacked s l ns
      unpacked_extra h =
          ap (part_unpacked l ns) (sym (filled_extra s (shown s n first f).0 h)) ∙ from (sym (shown s n first f).1 ∙ outline_go s 0 e)

      module _ (h : length s ≤ last) where
        read_all : filled_by (figure_of (values_of (rings_from s n most_corners first))) l ns ≡ unpacked s l ns
        read_all =
            ap (λ u. filled_by (figure_of (values_of u)) l ns) (shown s n first f).1
            ∙ ap (part_unpacked l ns) (sym (filled-read s h))
            ∙ from (sym (shown s n first f).1 ∙ outline_go s 0 e)

        pub unpacked-short : length l < 2 * m → unfilled (refusal_no Room) 0 l ns ≡ unpacked s l ns
        unfolding filled_by
        unpacked-short k =
            let p : unfilled (refusal_no Room) 0 l ns ≡ filled_by (figure_of (values_of (rings_from s n most_corners first))) l ns =
            simp (lt-leb (length (numbers_of (rings_from s n most_corners first))) (length l) (omega (arith, shown-numbers s n first f)))
            in p ∙ read_all

        pub unpacked-narrow : length ns < n → unfilled (refusal_no Room) 0 l ns ≡ unpacked s l ns
        unfolding filled_by
        unpacked-narrow k =
            let p : unfilled (refusal_no Room) 0 l ns ≡ filled_by (figure_of (values_of (rings_from s n most_corners first))) l ns =
            simp (lt-leb (length (lengths_of (rings_from s n most_corners first))) (length ns) (omega (arith, shown-lengths s n first f)), and-false)
            in p ∙ read_all

        pub unpacked-stored : (list done : List ℕ) → list ≡ sets l 0 (numbers_of (rings_from s n most_corners first))
            → done ≡ lengths_of (rings_from s n most_corners first) → 2 * m ≤ length l → n ≤ length ns
            → record { number = 0; corners = m; rings = n; offset = 0; list = list; lengths = done ++ drop n ns } ≡ unpacked s l ns
        unfolding filled_by
        unpacked-stored list done el en kl kn =
            let N : List ℕ = numbers_of (rings_from s n most_corners first) in
            let C : List ℕ = lengths_of (rings_from s n most_corners first) in
            let said : ℕ → ℕ → List ℕ → List ℕ → UnpackSaid =
            λ a b x y. record { number = 0; corners = a; rings = b; offset = 0; list = x; lengths = y }
            in
            let fitsN : length N ≤ length l = omega (arith, shown-numbers s n first f) in
            let fitsC : length C ≤ length ns = omega (arith, shown-lengths s n first f) in
            let all : total (figure_of (values_of (rings_from s n most_corners first))) ≡ m =
            ap (λ u. total (figure_of (values_of u))) (shown s n first f).1 ∙ (shown s n first f).2
            in
            let q : said (total (figure_of (values_of (rings_from s n most_corners first)))) (length C) (N ++ drop (length N) l) (C ++ drop (length C) ns)
            ≡ filled_by (figure_of (values_of (rings_from s n most_corners first))) l ns =
            simp (le-leb (length N) (length l) fitsN, le-leb (length C) (length ns) fitsC)
            in
            ap₂ (λ a b. said a b list (done ++ drop n ns)) (sym all) (sym (shown-lengths s n first f))
            ∙ ap₂ (λ (x y : List ℕ). said (total (figure_of (values_of (rings_from s n most_corners first)))) (length C) x y)
            (el ∙ sets_front l N fitsN)
            (ap₂ (λ (x : List ℕ) k. x ++ drop k ns) en (sym (shown-lengths s n first f)))
            ∙ q
            ∙ read_all
