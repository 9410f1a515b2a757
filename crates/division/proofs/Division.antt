-- Shots divided by a largest side. Assumes nothing.
--
--   divided_sum        == a sum over the parts is one over rows and columns
--   divided-count      == how many parts: the product
--   parts_at           == rows from the bottom, left to right in a row: part i x n + j of the list is the one in the column j of the row i
--   neighbours         == a part ends where the next of its row begins, and where the one above it begins; the outer ones end where the shot does
--   divided-fit        == no part has a side above m, and none is empty
--   divided_cover      == each unit square of the shot is in one part, and no other square is
--   divided-sliver     == the parts have together the sliver length of the shot, whatever lies around them
use Prim.Native.Nat.{ℕ, zero, suc, ◌+◌, ◌*◌, ◌-◌, ◌≤◌, ◌<◌}
use mathlib.Core.Path.{◌≡◌, refl, sym, ◌∙◌, ap, ap₂}
use mathlib.Core.Bool.{Bool, true, false, ◌&&◌}
use mathlib.Core.List.{List, map, ◌++◌}
use mathlib.Core.Logic.{inl, inr}
use native.Mathlib.Omega.{arith}
use native.Mathlib.Nat.{mul_comm}
use lib.Dec.{ltb, leb}
use lib.ListN.{length, get_or, length-map, get_or-append}
use lib.Seq.{get_or-append-add}
use borrow.Author.Tests.{lt-ltb, le-ltb}
use Rattle.sum.specs.Sum.{only, over, sum_of, All, join}
use Rattle.sum.proofs.Sum as sum
use Rattle.sum.proofs.Sum.{le-or}
use Rattle.sum.proofs.Lists.{sum_of-join, sum_of-map, sum_of_ones, All-join, All-map}
use Rattle.rule.specs.declared.Rule.{Rule}
use Rattle.rule.specs.Charge.{sliver_of}
use Rattle.rule.proofs.Charge.{sliver_flecks}
use Rattle.shot.specs.Shot.{Shot, holds}
use Rattle.shot.specs.Bad.{shot_of}
use Rattle.piece.specs.Cuts.{run}
use Rattle.table.proofs.Entry.{run_length}
use Rattle.demands.specs.Square.{prior, exposed, left_of, right_of, bottom_of, top_of, shot_sliver}
use Rattle.division.specs.Division.{across, upward, part_count, start, part, divided, product}
use Rattle.division.proofs.Evenly.{count-some, count-one, start_first, start-last, start_up, step_most, step_some, step_wide}

-- The sliver length of a shot by its two extents

-- nothing where neither is below the threshold, the longer pair where only the other is
module _ (r : Rule) (w h u l : ℕ) where
  sliver-none : r.threshold ≤ w → r.threshold ≤ h → sliver_of r w h u l ≡ 0
  sliver-none a b = sliver_flecks r w h u l (inl a) ∙ rw (le-ltb w r.threshold a, le-ltb h r.threshold b)

  sliver-low : h < r.threshold → r.threshold ≤ w → sliver_of r w h u l ≡ l
  sliver-low a b = sliver_flecks r w h u l (inl b) ∙ rw (le-ltb w r.threshold b, lt-ltb h r.threshold a) (let e : 0 + l ≡ l = omega arith in e)

  sliver-narrow : w < r.threshold → r.threshold ≤ h → sliver_of r w h u l ≡ u
  sliver-narrow a b = sliver_flecks r w h u l (inr b) ∙ rw (lt-ltb w r.threshold a, le-ltb h r.threshold b) (let e : u + 0 ≡ u = omega arith in e)

-- a shot by its places, x before y
abbrev box : ℕ → ℕ → ℕ → ℕ → Shot
box a c b d = shot_of a b c d

-- stretches one after the other
over_runs : (f : ℕ → ℕ) → ((i : ℕ) → f i ≤ f (suc i)) → (g : ℕ → ℕ) (n : ℕ) → over 0 n (λ i. over (f i) (f (suc i)) g) ≡ over (f 0) (f n) g
over_runs f up g zero = sum.over_none 0 0 _ (omega arith) ∙ sym (sum.over_none (f 0) (f 0) g (omega arith))
over_runs f up g (suc n) =
    sum.over_last 0 n (λ i. over (f i) (f (suc i)) g) (omega arith)
    ∙ ap (λ k. k + over (f n) (f (suc n)) g) (over_runs f up g n)
    ∙ sym (sum.over-cut (f 0) (f n) (f (suc n)) g (sum.rise f up 0 n (omega arith)) (up n))

-- Shots

sum_of-run : (f : ℕ → ℕ) (k n : ℕ) → sum_of f (run k n) ≡ over k (k + n) f
unfolding run sum_of
sum_of-run f k zero = sym (sum.over_none k (k + 0) f (omega arith))
sum_of-run f k (suc n) = let e : suc k + n ≡ k + suc n = omega arith in
    omega (arith, sum_of-run f (suc k) n, ap (λ c. over (suc k) c f) e, sum.over-cut k (suc k) (k + suc n) f (omega arith) (omega arith), sum.over-one k f)

run-over : (f : ℕ → ℕ) (n : ℕ) → sum_of f (run 0 n) ≡ over 0 n f
run-over f n = sum_of-run f 0 n ∙ ap (λ c. over 0 c f) (omega arith)

-- what holds of each number of a run
run-all : (Q : ℕ → Type 0) (k n : ℕ) → ((i : ℕ) → Q i) → All Q (run k n)
unfolding run
run-all Q k zero h = tt
run-all Q k (suc n) h = (h k, run-all Q (suc k) n h)

-- the j-th of a row, and of the i-th of several rows that are equally long
row_at : (g : ℕ → Shot) (d : Shot) (a n j : ℕ) → j < n → get_or (map g (run a n)) j d ≡ g (a + j)
unfolding run
row_at g d a zero j h = absurd (omega arith)
row_at g d a (suc n) zero h = let e : a ≡ a + 0 = omega arith in ap g e
row_at g d a (suc n) (suc j) h = let e : suc a + j ≡ a + suc j = omega arith in row_at g d (suc a) n j (omega arith) ∙ ap g e

rows_at : (f : ℕ → List Shot) (n : ℕ) → ((i : ℕ) → length (f i) ≡ n) → (d : Shot) (a k i j : ℕ) → i < k → j < n
    → get_or (join f (run a k)) (i * n + j) d ≡ get_or (f (a + i)) j d
unfolding run join
rows_at f n long d a zero i j h q = absurd (omega arith)
rows_at f n long d a (suc k) zero j h q =
    let e : 0 * n + j ≡ j = omega arith in
    let z : a ≡ a + 0 = omega arith in
    ap (λ v. get_or (f a ++ join f (run (suc a) k)) v d) e
    ∙ get_or-append (f a) (join f (run (suc a) k)) d j (omega (arith, long a))
    ∙ ap (λ v. get_or (f v) j d) z
rows_at f n long d a (suc k) (suc i) j h q =
    let e : suc i * n + j ≡ length (f a) + (i * n + j) = omega (arith, long a) in
    let z : suc a + i ≡ a + suc i = omega arith in
    ap (λ v. get_or (f a ++ join f (run (suc a) k)) v d) e
    ∙ get_or-append-add (f a) (join f (run (suc a) k)) (i * n + j) d
    ∙ rows_at f n long d (suc a) k i j (omega arith) q
    ∙ ap (λ v. get_or (f v) j d) z

module _ (m : ℕ) (s : Shot) where
  abbrev w : ℕ
  w = s.xhigh - s.xlow

  abbrev h : ℕ
  h = s.yhigh - s.ylow

  abbrev at : ℕ → ℕ → Shot
  at i j = part s (part_count m w) (part_count m h) i j

  pub divided_sum : (f : Shot → ℕ) → sum_of f (divided m s) ≡ over 0 (part_count m h) (λ i. over 0 (part_count m w) (λ j. f (at i j)))
  unfolding divided
  divided_sum f =
      sum_of-join f (λ i. map (λ j. at i j) (run 0 (part_count m w))) (run 0 (part_count m h))
      ∙ run-over _ (part_count m h)
      ∙ sum.over-same 0 (part_count m h) _ _ (λ i q r. sum_of-map f (λ j. at i j) (run 0 (part_count m w)) ∙ run-over (λ j. f (at i j)) (part_count m w))

  over_times : (n c : ℕ) → over 0 n (λ i. c) ≡ n * c
  over_times n c = omega (arith, sum.over-mul 0 n c (λ i. 1), sum.over_ones 0 n, sum.over_none n 0 (λ k. 1) (omega arith), mul_comm n c, ones)
    where
      ones : over 0 n (λ i. c) ≡ c * n
      ones = sum.over-same 0 n (λ i. c) (λ i. c * 1) (λ i q r. omega arith) ∙ sum.over-mul 0 n c (λ i. 1) ∙ ap (λ k. c * k) (let z : over 0 n (λ i. 1) ≡ n = omega (arith, sum.over_ones 0 n, sum.over_none n 0 (λ k. 1) (omega arith)) in z)

  pub divided-count : length (divided m s) ≡ product m s
  unfolding product
  divided-count =
      sym (sum_of_ones (divided m s)) ∙ divided_sum (λ q. 1) ∙ sum.over-same 0 (part_count m h) _ (λ i. part_count m w) (λ i q r. over_times (part_count m w) 1 ∙ omega arith) ∙ over_times (part_count m h) (part_count m w) ∙ mul_comm (part_count m h) (part_count m w)

  pub parts_at : (d : Shot) (i j : ℕ) → i < part_count m h → j < part_count m w → get_or (divided m s) (i * part_count m w + j) d ≡ at i j
  unfolding divided
  parts_at d i j hi hj =
      rows_at (λ i. map (λ j. at i j) (run 0 (part_count m w))) (part_count m w)
      (λ i. length-map (run 0 (part_count m w)) (λ j. at i j) ∙ run_length 0 (part_count m w)) d 0 (part_count m h) i j hi hj
      ∙ row_at (λ j. at (0 + i) j) d 0 (part_count m w) j hj
      ∙ (let e : 0 + i ≡ i = omega arith in let f : 0 + j ≡ j = omega arith in ap₂ (λ i j. at i j) e f)

  module _ (pos : 0 < m) (ordered-x : s.xlow < s.xhigh) (ordered-y : s.ylow < s.yhigh) where
    w_some : 0 < w
    w_some = omega arith

    h_some : 0 < h
    h_some = omega arith

    -- from the low end to the high end
    x-last : s.xlow + start w (part_count m w) (part_count m w) ≡ s.xhigh
    x-last = omega (arith, start-last w (part_count m w) (count-some m w pos w_some))

    y-last : s.ylow + start h (part_count m h) (part_count m h) ≡ s.yhigh
    y-last = omega (arith, start-last h (part_count m h) (count-some m h pos h_some))

    x-at : ℕ → ℕ
    x-at j = s.xlow + start w (part_count m w) j

    y-at : ℕ → ℕ
    y-at i = s.ylow + start h (part_count m h) i

    x-up : (j : ℕ) → x-at j ≤ x-at (suc j)
    unfolding x-at
    x-up j = omega (arith, start_up w (part_count m w) (count-some m w pos w_some) j)

    y-up : (i : ℕ) → y-at i ≤ y-at (suc i)
    unfolding y-at
    y-up i = omega (arith, start_up h (part_count m h) (count-some m h pos h_some) i)

    x-first : x-at 0 ≡ s.xlow
    unfolding x-at
    x-first = omega (arith, start_first w (part_count m w) (count-some m w pos w_some))

    y-first : y-at 0 ≡ s.ylow
    unfolding y-at
    y-first = omega (arith, start_first h (part_count m h) (count-some m h pos h_some))

    x-end : x-at (part_count m w) ≡ s.xhigh
    unfolding x-at
    x-end = x-last

    y-end : y-at (part_count m h) ≡ s.yhigh
    unfolding y-at
    y-end = y-last

    pub neighbours : (i j : ℕ)
        → ((at i j).xhigh ≡ (at i (suc j)).xlow) × ((at i j).ylow ≡ (at i (suc j)).ylow) × ((at i j).yhigh ≡ (at i (suc j)).yhigh)
        × ((at i j).yhigh ≡ (at (suc i) j).ylow)
        × ((at i 0).xlow ≡ s.xlow) × ((at i (part_count m w - 1)).xhigh ≡ s.xhigh)
        × ((at 0 j).ylow ≡ s.ylow) × ((at (part_count m h - 1) j).yhigh ≡ s.yhigh)
    unfolding part
    neighbours i j =
        let a : suc (part_count m w - 1) ≡ part_count m w = omega (arith, count-some m w pos w_some) in
        let b : suc (part_count m h - 1) ≡ part_count m h = omega (arith, count-some m h pos h_some) in (
          refl,
          refl,
          refl,
          refl,
          omega (arith, start_first w (part_count m w) (count-some m w pos w_some)),
          ap (λ k. s.xlow + start w (part_count m w) k) a ∙ x-last,
          omega (arith, start_first h (part_count m h) (count-some m h pos h_some)),
          ap (λ k. s.ylow + start h (part_count m h) k) b ∙ y-last,
        )

    abbrev fits : Shot → Type 0
    fits q = ((q.xlow < q.xhigh) × (across q ≤ m)) × ((q.ylow < q.yhigh) × (upward q ≤ m))

    pub divided-fit : All (λ q. ((q.xlow < q.xhigh) × (across q ≤ m)) × ((q.ylow < q.yhigh) × (upward q ≤ m))) (divided m s)
    unfolding divided
    divided-fit =
        All-join fits (λ i. map (λ j. at i j) (run 0 (part_count m w))) (run 0 (part_count m h))
        (run-all (λ i. All fits (map (λ j. at i j) (run 0 (part_count m w)))) 0 (part_count m h)
        (λ i. All-map fits (λ j. at i j) (run 0 (part_count m w)) (run-all (λ j. fits (at i j)) 0 (part_count m w) (λ j. each i j))))
      where
        each : (i j : ℕ) → fits (at i j)
        each i j =
            unfold part in (
              (omega (arith, step_some m w pos w_some j), omega (arith, step_most m w pos w_some j)),
              (omega (arith, step_some m h pos h_some i), omega (arith, step_most m h pos h_some i)),
            )

    pub divided_cover : (x y : ℕ) → sum_of (λ q. only (holds x y q) 1) (divided m s) ≡ only (holds x y s) 1
    divided_cover x y = divided_sum (λ q. only (holds x y q) 1) ∙ spread
      where
        spread : over 0 (part_count m h) (λ i. over 0 (part_count m w) (λ j. only (holds x y (at i j)) 1)) ≡ only (holds x y s) 1
        spread =
            unfold holds part x-at y-at in (
            sum.over-same 0 (part_count m h) _ (λ i. only (leb (y-at i) y && ltb y (y-at (suc i))) (only in_x 1))
            (λ i q r.
            sum.over-same 0 (part_count m w) _ (λ j. only (leb (x-at j) x && ltb x (x-at (suc j))) (only (leb (y-at i) y && ltb y (y-at (suc i))) 1))
            (λ j u v. sym (sum.only-only (leb (x-at j) x && ltb x (x-at (suc j))) (leb (y-at i) y && ltb y (y-at (suc i))) 1))
            ∙ sum.over-spans x-at x-up 0 (part_count m w) x (only (leb (y-at i) y && ltb y (y-at (suc i))) 1) (omega arith)
            ∙ sum.only-only (leb (x-at 0) x && ltb x (x-at (part_count m w))) (leb (y-at i) y && ltb y (y-at (suc i))) 1
            ∙ turn (leb (x-at 0) x && ltb x (x-at (part_count m w))) (leb (y-at i) y && ltb y (y-at (suc i))))
            ∙ sum.over-spans y-at y-up 0 (part_count m h) y (only in_x 1) (omega arith)
            ∙ turn' in_x (leb (y-at 0) y && ltb y (y-at (part_count m h)))
            ∙ ap₂ (λ a b. only ((leb a x && ltb x b) && (leb (y-at 0) y && ltb y (y-at (part_count m h)))) 1) x-first x-end
            ∙ ap₂ (λ a b. only ((leb s.xlow x && ltb x s.xhigh) && (leb a y && ltb y b)) 1) y-first y-end)
          where
            in_x : Bool
            in_x = leb (x-at 0) x && ltb x (x-at (part_count m w))

            turn : (a b : Bool) → only (a && b) 1 ≡ only b (only a 1)
            turn true true = refl
            turn true false = refl
            turn false true = refl
            turn false false = refl

            turn' : (a b : Bool) → only b (only a 1) ≡ only (a && b) 1
            turn' a b = sym (turn a b)

    module _ (F : ℕ → ℕ → Bool) (r : Rule) (twice : 2 * r.threshold ≤ m) where
      abbrev t : ℕ
      t = r.threshold

      -- parts of a side that is not below the threshold are not below it
      parts-wide : (side : ℕ) → 0 < side → t ≤ side → (i : ℕ) → i < part_count m side → start side (part_count m side) i + t ≤ start side (part_count m side) (suc i)
      parts-wide side some wide i q = elim (le-or side m) [
        | inr long ↦ step_wide m side pos some t twice long i
        | inl short ↦
            (let e = count-one m side pos some short in
            let z : i ≡ 0 = omega arith in
            omega (
              arith,
              start_first side (part_count m side) (count-some m side pos some),
              start-last side (part_count m side) (count-some m side pos some),
              ap (start side (part_count m side)) z,
              ap (λ i. start side (part_count m side) (suc i)) z,
              ap (start side (part_count m side)) e,
            ))
      ]

      abbrev f : Shot → ℕ
      f = shot_sliver F r

      -- neither extent below the threshold
      both-wide : t ≤ w → t ≤ h → sum_of f (divided m s) ≡ f s
      unfolding shot_sliver part
      both-wide a b =
          divided_sum f
          ∙ sum.over_zero 0 (part_count m h) _
          (λ i p q. sum.over_zero 0 (part_count m w) _
          (λ j u v. sliver-none r _ _ _ _ (omega (arith, parts-wide w w_some a j v)) (omega (arith, parts-wide h h_some b i q))))
          ∙ sym (sliver-none r w h _ _ a b)

      -- one part each way: the shot itself
      single : w ≤ m → h ≤ m → sum_of f (divided m s) ≡ f s
      single a b =
          divided_sum f
          ∙ ap₂ (λ k n. over 0 k (λ i. over 0 n (λ j. f (at i j)))) (count-one m h pos h_some b) (count-one m w pos w_some a)
          ∙ sum.over-one 0 (λ i. over 0 1 (λ j. f (at i j)))
          ∙ sum.over-one 0 (λ j. f (at 0 j))
          ∙ ap f same
        where
          same : at 0 0 ≡ s
          same =
              opened
              ∙ ap₂ (λ a c. box a c (y-at 0) (y-at 1)) x-first (ap x-at (sym (count-one m w pos w_some a)) ∙ x-end)
              ∙ ap₂ (λ c d. box s.xlow s.xhigh c d) y-first (ap y-at (sym (count-one m h pos h_some b)) ∙ y-end)
            where
              opened : at 0 0 ≡ box (x-at 0) (x-at 1) (y-at 0) (y-at 1)
              opened = unfold part x-at y-at in refl

      -- a stretch of 1 nm of the bottom and of the top, of the left and of the right side
      abbrev below : ℕ → ℕ
      below x = only (exposed (F x s.ylow) (prior (F x) s.ylow)) 1

      abbrev above : ℕ → ℕ
      above x = only (exposed (prior (F x) s.yhigh) (F x s.yhigh)) 1

      abbrev west : ℕ → ℕ
      west y = only (exposed (F s.xlow y) (prior (λ x. F x y) s.xlow)) 1

      abbrev east : ℕ → ℕ
      east y = only (exposed (prior (λ x. F x y) s.xhigh) (F s.xhigh y)) 1

      opened : (i j : ℕ) → at i j ≡ box (x-at j) (x-at (suc j)) (y-at i) (y-at (suc i))
      opened i j = unfold part x-at y-at in refl

      x-wide : t ≤ w → (j : ℕ) → j < part_count m w → t ≤ x-at (suc j) - x-at j
      x-wide a j v = unfold x-at in omega (arith, parts-wide w w_some a j v)

      y-wide : t ≤ h → (i : ℕ) → i < part_count m h → t ≤ y-at (suc i) - y-at i
      y-wide a i v = unfold y-at in omega (arith, parts-wide h h_some a i v)

      -- a bar that lies: its parts lie side by side, and only bottoms and tops count
      lying : h < t → m < w → sum_of f (divided m s) ≡ f s
      lying a b =
          divided_sum f
          ∙ ap (λ k. over 0 k (λ i. over 0 (part_count m w) (λ j. f (at i j)))) ny
          ∙ sum.over-one 0 (λ i. over 0 (part_count m w) (λ j. f (at i j)))
          ∙ sum.over-same 0 (part_count m w) _ (λ j. over (x-at j) (x-at (suc j)) below + over (x-at j) (x-at (suc j)) above) each
          ∙ sum.over_add 0 (part_count m w) (λ j. over (x-at j) (x-at (suc j)) below) (λ j. over (x-at j) (x-at (suc j)) above)
          ∙ ap₂ ◌+◌ (over_runs x-at x-up below (part_count m w)) (over_runs x-at x-up above (part_count m w))
          ∙ ap₂ (λ a c. over a c below + over a c above) x-first x-end
          ∙ sym whole-low
        where
          ny : part_count m h ≡ 1
          ny = count-one m h pos h_some (omega arith)

          ends-y : (y-at 0 ≡ s.ylow) × (y-at 1 ≡ s.yhigh)
          ends-y = (y-first, ap y-at (sym ny) ∙ y-end)

          whole-low : f s ≡ over s.xlow s.xhigh below + over s.xlow s.xhigh above
          whole-low = unfold shot_sliver bottom_of top_of in sliver-low r w h (left_of F s + right_of F s) _ a (omega arith)

          each : (j : ℕ) → 0 ≤ j → j < part_count m w → f (at 0 j) ≡ over (x-at j) (x-at (suc j)) below + over (x-at j) (x-at (suc j)) above
          each j u v =
              ap f (opened 0 j)
              ∙ ap₂ (λ c d. f (box (x-at j) (x-at (suc j)) c d)) ends-y.0 ends-y.1
              ∙ (unfold shot_sliver bottom_of top_of in sliver-low r (x-at (suc j) - x-at j) h (left_of F (box (x-at j) (x-at (suc j)) s.ylow s.yhigh) + right_of F (box (x-at j) (x-at (suc j)) s.ylow s.yhigh)) _ a (x-wide (omega arith) j v))

      -- a bar that stands: its parts stand one on the other, and only left and right sides count
      standing : w < t → m < h → sum_of f (divided m s) ≡ f s
      standing a b =
          divided_sum f
          ∙ ap (λ k. over 0 (part_count m h) (λ i. over 0 k (λ j. f (at i j)))) nx
          ∙ sum.over-same 0 (part_count m h) _ (λ i. over (y-at i) (y-at (suc i)) west + over (y-at i) (y-at (suc i)) east)
          (λ i u v. sum.over-one 0 (λ j. f (at i j)) ∙ each i v)
          ∙ sum.over_add 0 (part_count m h) (λ i. over (y-at i) (y-at (suc i)) west) (λ i. over (y-at i) (y-at (suc i)) east)
          ∙ ap₂ ◌+◌ (over_runs y-at y-up west (part_count m h)) (over_runs y-at y-up east (part_count m h))
          ∙ ap₂ (λ b d. over b d west + over b d east) y-first y-end
          ∙ sym whole-narrow
        where
          nx : part_count m w ≡ 1
          nx = count-one m w pos w_some (omega arith)

          ends-x : (x-at 0 ≡ s.xlow) × (x-at 1 ≡ s.xhigh)
          ends-x = (x-first, ap x-at (sym nx) ∙ x-end)

          whole-narrow : f s ≡ over s.ylow s.yhigh west + over s.ylow s.yhigh east
          whole-narrow = unfold shot_sliver left_of right_of in sliver-narrow r w h _ (bottom_of F s + top_of F s) a (omega arith)

          each : (i : ℕ) → i < part_count m h → f (at i 0) ≡ over (y-at i) (y-at (suc i)) west + over (y-at i) (y-at (suc i)) east
          each i v =
              ap f (opened i 0)
              ∙ ap₂ (λ a c. f (box a c (y-at i) (y-at (suc i)))) ends-x.0 ends-x.1
              ∙ (unfold shot_sliver left_of right_of in sliver-narrow r w (y-at (suc i) - y-at i) _ (bottom_of F (box s.xlow s.xhigh (y-at i) (y-at (suc i))) + top_of F (box s.xlow s.xhigh (y-at i) (y-at (suc i)))) a (y-wide (omega arith) i v))

      -- division never changes the sliver length
      pub divided-sliver : sum_of (shot_sliver F r) (divided m s) ≡ shot_sliver F r s
      divided-sliver = elim (le-or t h) [
        | inl tall ↦ elim (le-or t w) [
          | inl wide ↦ both-wide wide tall
          | inr narrow ↦ elim (le-or h m) [
            | inl short ↦ single (omega arith) short
            | inr long ↦ standing narrow long
          ]
        ]
        | inr low ↦ elim (le-or w m) [
          | inl short ↦ single short (omega arith)
          | inr long ↦ lying low long
        ]
      ]
