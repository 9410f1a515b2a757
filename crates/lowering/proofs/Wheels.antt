-- Laws of the pinwheels of a strip: their entries and weights, and which lines they have. Assumes nothing.
--
--   count_small                == there are at most 15 pairs of y lines
--   Numbers                    == the numbers of the pairs of y lines that the parts of a pinwheel have
--   first_addable, second_addable, inner_in
--                              == the entries of its parts are the table's
--   cheaper_fits, cheaper_is   == the lesser of the two sums of four, and the inner part
--   place_in, take_lowers      == one quadruple of y lines
--   three_lowers, four_lowers, five_lowers
--                              == the pieces from b on, of up to so many rows
--   rows-three, rows_four, rows-five
--                              == all pieces of a grid of so many rows
--   placed_as                  == a count of rows, said as a constant
--   Stands, stands, row_fits   == where the strips of a pinwheel stand in the table
--   placed_in                  == they lie within it
--   lines-lower, line-end      == the pinwheels of two x lines, as weights of their five parts; of all upper x lines
--   least-wheel                == all pinwheels of a piece
use Prim.Native.Nat.{ℕ, ◌+◌, ◌*◌, ◌≤◌, ◌<◌, ◌^◌, min}
use mathlib.Core.Path.{◌≡◌, refl, sym, ◌∙◌, ap₂, subst}
use mathlib.Core.Logic.{◌⊎◌, inl, inr}
use mathlib.Core.List.{List}
use native.Mathlib.Omega.{arith}
use native.Mathlib.Nat.{mul-le-mul}
use lib.ListN.{length, get_or, set}
use mir.Syntax.{w64}
use mir.Val.{Fits}
use Rattle.sum.proofs.Sum.{le-or}
use Rattle.piece.specs.declared.Turn.{Turn}
use Rattle.piece.specs.declared.Turn.TheVariants.{First, Second}
use Rattle.piece.specs.Piece.{box}
use Rattle.piece.specs.Cuts.{wheel, parts, Inner}
use Rattle.table.specs.Entry.{pair_count, pair_no, entry_of, entry_count}
use Rattle.table.proofs.Entry.{count-closed, pair-below, pair_same}
use Rattle.table.proofs.Pairs.{row_before, row-most}
use Rattle.verdict.specs.Verdict.{part_no, wheel_in}
use Rattle.verdict.specs.Pinwheels.{weight_of}
use Rattle.lowering.specs.declared.weighing.Strips.{Strips}
use Rattle.lowering.specs.Least.{LeastWheel, Weighable}
use Rattle.lowering.specs.Lowered.{Lines, Addable, weight_in, Placed, Lowered, Among, WheelsAt, WheelsUpTo, EveryWheel, OfLines, OfLine}
use Rattle.lowering.proofs.Weighed.{lowered_as, lowered-then, lowered-set, among-end}

pub count_small : (rows : ℕ) → rows ≤ 5 → pair_count rows ≤ 15
count_small rows h = omega (arith, count-closed rows, mul-le-mul {n₁ = rows} {m₁ = rows + 1} {n₂ = 5} {m₂ = 6} h (omega arith))

-- the numbers of the pairs of y lines
pub record Numbers (rows b k m d u v w x y : ℕ) : Type 0 where
  pub bk : u ≡ pair_no rows b k
  pub bm : v ≡ pair_no rows b m
  pub kd : w ≡ pair_no rows k d
  pub md : x ≡ pair_no rows m d
  pub km : y ≡ pair_no rows k m

module _ (t : List ℕ) (rows : ℕ) (s : Strips) {b k m d : ℕ} (z : Placed t rows s) (o : Lines rows b k m d)
    {u v w x y : ℕ} (n : Numbers rows b k m d u v w x y) where
  first-whole : weight_in t rows s First b k m d
      ≡ get_or t (s.left + u) 0 + get_or t (s.end + v) 0 + get_or t (s.start + w) 0 + get_or t (s.right + x) 0 + get_or t (s.middle + y) 0
  unfolding weight_in
  first-whole = cc

  second-whole : weight_in t rows s Second b k m d
      ≡ get_or t (s.start + v) 0 + get_or t (s.right + u) 0 + get_or t (s.left + x) 0 + get_or t (s.end + w) 0 + get_or t (s.middle + y) 0
  unfolding weight_in
  second-whole = cc

  small_u : u < pair_count rows
  small_u = omega (arith, n.bk, pair-below rows b k o.bk (omega (arith, o)))

  small_v : v < pair_count rows
  small_v = omega (arith, n.bm, pair-below rows b m (omega (arith, o)) (omega (arith, o)))

  small_w : w < pair_count rows
  small_w = omega (arith, n.kd, pair-below rows k d (omega (arith, o)) (omega (arith, o)))

  small-x : x < pair_count rows
  small-x = omega (arith, n.md, pair-below rows m d (omega (arith, o)) (omega (arith, o)))

  small-y : y < pair_count rows
  small-y = omega (arith, n.km, pair-below rows k m (omega (arith, o)) (omega (arith, o)))

  pub first_addable : Addable t (s.left + u) (s.end + v) (s.start + w) (s.right + x)
  first_addable =
      record {
        first = omega (arith, z.left, small_u);
        second = omega (arith, z.end, small_v);
        third = omega (arith, z.start, small_w);
        fourth = omega (arith, z.right, small-x);
        small = omega (arith, first-whole, z.sums First b k m d o);
      }

  pub second_addable : Addable t (s.start + v) (s.right + u) (s.left + x) (s.end + w)
  second_addable =
      record {
        first = omega (arith, z.start, small_v);
        second = omega (arith, z.right, small_u);
        third = omega (arith, z.left, small-x);
        fourth = omega (arith, z.end, small_w);
        small = omega (arith, second-whole, z.sums Second b k m d o);
      }

  pub inner_in : s.middle + y < length t
  inner_in = omega (arith, z.middle, small-y)

  -- the lesser of two sums of four, and the inner part
  module _ {f g r : ℕ}
      (ef : f ≡ get_or t (s.left + u) 0 + get_or t (s.end + v) 0 + get_or t (s.start + w) 0 + get_or t (s.right + x) 0)
      (eg : g ≡ get_or t (s.start + v) 0 + get_or t (s.right + u) 0 + get_or t (s.left + x) 0 + get_or t (s.end + w) 0)
      (er : r ≡ min f g) where
    pub cheaper_fits : r + get_or t (s.middle + y) 0 < 2 ^ 32
    cheaper_fits = omega (arith, first-whole, z.sums First b k m d o)

    pub cheaper_is : r + get_or t (s.middle + y) 0 ≡ min (weight_in t rows s First b k m d) (weight_in t rows s Second b k m d)
    cheaper_is = omega (arith, first-whole, second-whole)

module _ (t : List ℕ) (rows : ℕ) (s : Strips) where
  -- its piece has a number
  pub place_in : {b k m d at : ℕ} → Placed t rows s → Lines rows b k m d → at ≡ pair_no rows b d → at < 16
  place_in {b} {k} {m} {d} z o e = omega (arith, count_small rows z.rows-most, pair-below rows b d (omega (arith, o)) o.dy)

  -- one quadruple of y lines
  pub take_lowers : {b k m d : ℕ} (best : List ℕ) {at least v : ℕ} → Placed t rows s → Lines rows b k m d → length best ≡ 16 → at ≡ pair_no rows b d
      → least ≡ min (weight_in t rows s First b k m d) (weight_in t rows s Second b k m d) → v ≡ min (get_or best at 0) least
      → Lowered (WheelsAt t rows s b k m d) best (set best at v)
  unfolding WheelsAt
  take_lowers {b} {k} {m} {d} best z o long ea el ev =
      lowered-set (WheelsAt t rows s b k m d) best
      (omega (arith, place_in z o ea))
      (omega arith)
      (First, ea, refl)
      (Second, ea, refl)
      (λ e n q. (q.1 ∙ sym ea, either q.0 n q.2))
    where
      either : (turn : Turn) (n : ℕ) → n ≡ weight_in t rows s turn b k m d → (n ≡ weight_in t rows s First b k m d) ⊎ (n ≡ weight_in t rows s Second b k m d)
      either First n e = inl e
      either Second n e = inr e

module _ (t : List ℕ) (rows : ℕ) (s : Strips) where
  -- the pinwheels of a piece from b on, its other lines counted from b
  abbrev At : ℕ → ℕ → ℕ → ℕ → ℕ → ℕ → Type 0
  At b k m d = WheelsAt t rows s b (b + k) (b + m) (b + d)

  abbrev Up : ℕ → ℕ → ℕ → ℕ → Type 0
  Up b h = WheelsUpTo t rows s b (b + h)

  -- the quadruple of these lines is one of those up to a line
  put : {b k m d top : ℕ} → Lines top b k m d → (e v : ℕ) → WheelsAt t rows s b k m d e v → WheelsUpTo t rows s b top e v
  unfolding WheelsUpTo
  put {k = k} {m = m} {d = d} o e v w = (k, m, d, o, w)

  -- and so are those up to a lower line
  widen : (b top high : ℕ) → top ≤ high → (e v : ℕ) → WheelsUpTo t rows s b top e v → WheelsUpTo t rows s b high e v
  unfolding WheelsUpTo
  widen b top high h e v w =
      let o = w.3 in
      (w.0, w.1, w.2, record { bk = o.bk; km = o.km; md = o.md; dy = omega (arith, o.dy) }, w.4)

  -- the same lines
  same : (b k m d e v : ℕ) {k' m' d' : ℕ} → k' ≡ b + k → m' ≡ b + m → d' ≡ b + d → WheelsAt t rows s b k' m' d' e v → At b k m d e v
  same b k m d e v {k'} {m'} {d'} p q r w =
      subst (λ i. WheelsAt t rows s b i (b + m) (b + d) e v) p (subst (λ i. WheelsAt t rows s b k' i (b + d) e v) q (subst (λ i. WheelsAt t rows s b k' m' i e v) r w))

  pub three_lowers : (b : ℕ) {x y : List ℕ} → Lowered (At b 1 2 3) x y → Lowered (Up b 3) x y
  unfolding WheelsUpTo
  three_lowers b {x} {y} w = lowered_as (At b 1 2 3) (Up b 3) x y to from w
    where
      to : (e v : ℕ) → At b 1 2 3 e v → Up b 3 e v
      to e v q = put (record { bk = omega arith; km = omega arith; md = omega arith; dy = omega arith }) e v q

      from : (e v : ℕ) → Up b 3 e v → At b 1 2 3 e v
      from e v q = let o = q.3 in same b 1 2 3 e v (omega (arith, o)) (omega (arith, o)) (omega (arith, o)) q.4

  pub four_lowers : (b : ℕ) {u w x y z : List ℕ} → Lowered (Up b 3) u w
      → Lowered (At b 1 2 4) w x
      → Lowered (At b 1 3 4) x y
      → Lowered (At b 2 3 4) y z
      → Lowered (Up b 4) u z
  unfolding WheelsUpTo
  four_lowers b {u} {w} {x} {y} {z} p0 p1 p2 p3 =
      lowered_as (λ e v. ((Up b 3 e v ⊎ At b 1 2 4 e v) ⊎ At b 1 3 4 e v) ⊎ At b 2 3 4 e v) (Up b 4) u z to from
      (lowered-then (λ e v. (Up b 3 e v ⊎ At b 1 2 4 e v) ⊎ At b 1 3 4 e v) (At b 2 3 4) u y z
      (lowered-then (λ e v. Up b 3 e v ⊎ At b 1 2 4 e v) (At b 1 3 4) u x y
      (lowered-then (Up b 3) (At b 1 2 4) u w x
      p0 p1) p2) p3)
    where
      to : (e v : ℕ) → ((Up b 3 e v ⊎ At b 1 2 4 e v) ⊎ At b 1 3 4 e v) ⊎ At b 2 3 4 e v → Up b 4 e v
      to e v (inl (inl (inl q))) = widen b (b + 3) (b + 4) (omega arith) e v q
      to e v (inl (inl (inr q))) = put (record { bk = omega arith; km = omega arith; md = omega arith; dy = omega arith }) e v q
      to e v (inl (inr q)) = put (record { bk = omega arith; km = omega arith; md = omega arith; dy = omega arith }) e v q
      to e v (inr q) = put (record { bk = omega arith; km = omega arith; md = omega arith; dy = omega arith }) e v q

      from : (e v : ℕ) → Up b 4 e v → ((Up b 3 e v ⊎ At b 1 2 4 e v) ⊎ At b 1 3 4 e v) ⊎ At b 2 3 4 e v
      from e v q =
          let o = q.3 in
          elim (le-or q.2 (b + 3)) [
            | inl d1 ↦ inl (inl (inl (q.0, q.1, q.2, record { bk = o.bk; km = o.km; md = o.md; dy = d1 }, q.4)))
            | inr d1 ↦ elim (le-or q.1 (b + 2)) [
              | inl m1 ↦ inl (inl (inr (same b 1 2 4 e v (omega (arith, o)) (omega (arith, o)) (omega (arith, o)) q.4)))
              | inr m1 ↦ elim (le-or q.0 (b + 1)) [
                | inl k1 ↦ inl (inr (same b 1 3 4 e v (omega (arith, o)) (omega (arith, o)) (omega (arith, o)) q.4))
                | inr k1 ↦ inr (same b 2 3 4 e v (omega (arith, o)) (omega (arith, o)) (omega (arith, o)) q.4)
              ]
            ]
          ]

  pub five_lowers : (b : ℕ) {u w1 w2 w3 w4 w5 w6 z : List ℕ} → Lowered (Up b 4) u w1
      → Lowered (At b 1 2 5) w1 w2
      → Lowered (At b 1 3 5) w2 w3
      → Lowered (At b 1 4 5) w3 w4
      → Lowered (At b 2 3 5) w4 w5
      → Lowered (At b 2 4 5) w5 w6
      → Lowered (At b 3 4 5) w6 z
      → Lowered (Up b 5) u z
  unfolding WheelsUpTo
  five_lowers b {u} {w1} {w2} {w3} {w4} {w5} {w6} {z} p0 p1 p2 p3 p4 p5 p6 =
      lowered_as (λ e v. (((((Up b 4 e v ⊎ At b 1 2 5 e v) ⊎ At b 1 3 5 e v) ⊎ At b 1 4 5 e v) ⊎ At b 2 3 5 e v) ⊎ At b 2 4 5 e v) ⊎ At b 3 4 5 e v) (Up b 5) u z to from
      (lowered-then (λ e v. ((((Up b 4 e v ⊎ At b 1 2 5 e v) ⊎ At b 1 3 5 e v) ⊎ At b 1 4 5 e v) ⊎ At b 2 3 5 e v) ⊎ At b 2 4 5 e v) (At b 3 4 5) u w6 z
      (lowered-then (λ e v. (((Up b 4 e v ⊎ At b 1 2 5 e v) ⊎ At b 1 3 5 e v) ⊎ At b 1 4 5 e v) ⊎ At b 2 3 5 e v) (At b 2 4 5) u w5 w6
      (lowered-then (λ e v. ((Up b 4 e v ⊎ At b 1 2 5 e v) ⊎ At b 1 3 5 e v) ⊎ At b 1 4 5 e v) (At b 2 3 5) u w4 w5
      (lowered-then (λ e v. (Up b 4 e v ⊎ At b 1 2 5 e v) ⊎ At b 1 3 5 e v) (At b 1 4 5) u w3 w4
      (lowered-then (λ e v. Up b 4 e v ⊎ At b 1 2 5 e v) (At b 1 3 5) u w2 w3
      (lowered-then (Up b 4) (At b 1 2 5) u w1 w2
      p0 p1) p2) p3) p4) p5) p6)
    where
      to : (e v : ℕ) → (((((Up b 4 e v ⊎ At b 1 2 5 e v) ⊎ At b 1 3 5 e v) ⊎ At b 1 4 5 e v) ⊎ At b 2 3 5 e v) ⊎ At b 2 4 5 e v) ⊎ At b 3 4 5 e v → Up b 5 e v
      to e v (inl (inl (inl (inl (inl (inl q)))))) = widen b (b + 4) (b + 5) (omega arith) e v q
      to e v (inl (inl (inl (inl (inl (inr q)))))) = put (record { bk = omega arith; km = omega arith; md = omega arith; dy = omega arith }) e v q
      to e v (inl (inl (inl (inl (inr q))))) = put (record { bk = omega arith; km = omega arith; md = omega arith; dy = omega arith }) e v q
      to e v (inl (inl (inl (inr q)))) = put (record { bk = omega arith; km = omega arith; md = omega arith; dy = omega arith }) e v q
      to e v (inl (inl (inr q))) = put (record { bk = omega arith; km = omega arith; md = omega arith; dy = omega arith }) e v q
      to e v (inl (inr q)) = put (record { bk = omega arith; km = omega arith; md = omega arith; dy = omega arith }) e v q
      to e v (inr q) = put (record { bk = omega arith; km = omega arith; md = omega arith; dy = omega arith }) e v q

      from : (e v : ℕ) → Up b 5 e v → (((((Up b 4 e v ⊎ At b 1 2 5 e v) ⊎ At b 1 3 5 e v) ⊎ At b 1 4 5 e v) ⊎ At b 2 3 5 e v) ⊎ At b 2 4 5 e v) ⊎ At b 3 4 5 e v
      from e v q =
          let o = q.3 in
          elim (le-or q.2 (b + 4)) [
            | inl d1 ↦ inl (inl (inl (inl (inl (inl (q.0, q.1, q.2, record { bk = o.bk; km = o.km; md = o.md; dy = d1 }, q.4))))))
            | inr d1 ↦ elim (le-or q.1 (b + 2)) [
              | inl m1 ↦ inl (inl (inl (inl (inl (inr (same b 1 2 5 e v (omega (arith, o)) (omega (arith, o)) (omega (arith, o)) q.4))))))
              | inr m1 ↦ elim (le-or q.1 (b + 3)) [
                | inl m2 ↦ elim (le-or q.0 (b + 1)) [
                  | inl k1 ↦ inl (inl (inl (inl (inr (same b 1 3 5 e v (omega (arith, o)) (omega (arith, o)) (omega (arith, o)) q.4)))))
                  | inr k1 ↦ inl (inl (inr (same b 2 3 5 e v (omega (arith, o)) (omega (arith, o)) (omega (arith, o)) q.4)))
                ]
                | inr m2 ↦ elim (le-or q.0 (b + 1)) [
                  | inl k1 ↦ inl (inl (inl (inr (same b 1 4 5 e v (omega (arith, o)) (omega (arith, o)) (omega (arith, o)) q.4))))
                  | inr k1 ↦ elim (le-or q.0 (b + 2)) [
                    | inl k2 ↦ inl (inr (same b 2 4 5 e v (omega (arith, o)) (omega (arith, o)) (omega (arith, o)) q.4))
                    | inr k2 ↦ inr (same b 3 4 5 e v (omega (arith, o)) (omega (arith, o)) (omega (arith, o)) q.4)
                  ]
                ]
              ]
            ]
          ]

module _ (t : List ℕ) (s : Strips) {rows : ℕ} where
  pub rows-three : rows ≡ 3 → {u v : List ℕ} → Lowered (WheelsUpTo t 3 s 0 3) u v → Lowered (EveryWheel t rows s) u v
  unfolding EveryWheel WheelsUpTo
  rows-three h {u} {v} p = subst (λ r. Lowered (EveryWheel t r s) u v) (sym h) (lowered_as (WheelsUpTo t 3 s 0 3) (EveryWheel t 3 s) u v to from p)
    where
      to : (e n : ℕ) → WheelsUpTo t 3 s 0 3 e n → EveryWheel t 3 s e n
      to e n q = (0, q)

      from : (e n : ℕ) → EveryWheel t 3 s e n → WheelsUpTo t 3 s 0 3 e n
      from e n q = subst (λ b. WheelsUpTo t 3 s b 3 e n) (omega (arith, q.1.3)) q.1

  pub rows_four : rows ≡ 4 → {u v w : List ℕ} → Lowered (WheelsUpTo t 4 s 1 4) u v → Lowered (WheelsUpTo t 4 s 0 4) v w → Lowered (EveryWheel t rows s) u w
  unfolding EveryWheel WheelsUpTo
  rows_four h {u} {v} {w} p1 p0 =
      subst (λ r. Lowered (EveryWheel t r s) u w) (sym h)
      (lowered_as (λ e n. WheelsUpTo t 4 s 1 4 e n ⊎ WheelsUpTo t 4 s 0 4 e n) (EveryWheel t 4 s) u w to from
      (lowered-then (WheelsUpTo t 4 s 1 4) (WheelsUpTo t 4 s 0 4) u v w p1 p0))
    where
      to : (e n : ℕ) → WheelsUpTo t 4 s 1 4 e n ⊎ WheelsUpTo t 4 s 0 4 e n → EveryWheel t 4 s e n
      to e n (inl q) = (1, q)
      to e n (inr q) = (0, q)

      from : (e n : ℕ) → EveryWheel t 4 s e n → WheelsUpTo t 4 s 1 4 e n ⊎ WheelsUpTo t 4 s 0 4 e n
      from e n q = elim (le-or q.0 0) [
        | inl i ↦ inr (subst (λ b. WheelsUpTo t 4 s b 4 e n) (omega (arith, q.1.3)) q.1)
        | inr i ↦ inl (subst (λ b. WheelsUpTo t 4 s b 4 e n) (omega (arith, q.1.3)) q.1)
      ]

  pub rows-five : rows ≡ 5 → {u v w x : List ℕ} → Lowered (WheelsUpTo t 5 s 2 5) u v → Lowered (WheelsUpTo t 5 s 1 5) v w → Lowered (WheelsUpTo t 5 s 0 5) w x
      → Lowered (EveryWheel t rows s) u x
  unfolding EveryWheel WheelsUpTo
  rows-five h {u} {v} {w} {x} p2 p1 p0 =
      subst (λ r. Lowered (EveryWheel t r s) u x) (sym h)
      (lowered_as (λ e n. (WheelsUpTo t 5 s 2 5 e n ⊎ WheelsUpTo t 5 s 1 5 e n) ⊎ WheelsUpTo t 5 s 0 5 e n) (EveryWheel t 5 s) u x to from
      (lowered-then (λ e n. WheelsUpTo t 5 s 2 5 e n ⊎ WheelsUpTo t 5 s 1 5 e n) (WheelsUpTo t 5 s 0 5) u w x
      (lowered-then (WheelsUpTo t 5 s 2 5) (WheelsUpTo t 5 s 1 5) u v w p2 p1) p0))
    where
      to : (e n : ℕ) → (WheelsUpTo t 5 s 2 5 e n ⊎ WheelsUpTo t 5 s 1 5 e n) ⊎ WheelsUpTo t 5 s 0 5 e n → EveryWheel t 5 s e n
      to e n (inl (inl q)) = (2, q)
      to e n (inl (inr q)) = (1, q)
      to e n (inr q) = (0, q)

      from : (e n : ℕ) → EveryWheel t 5 s e n → (WheelsUpTo t 5 s 2 5 e n ⊎ WheelsUpTo t 5 s 1 5 e n) ⊎ WheelsUpTo t 5 s 0 5 e n
      from e n q = elim (le-or q.0 0) [
        | inl i ↦ inr (subst (λ b. WheelsUpTo t 5 s b 5 e n) (omega (arith, q.1.3)) q.1)
        | inr i ↦ elim (le-or q.0 1) [
          | inl j ↦ inl (inr (subst (λ b. WheelsUpTo t 5 s b 5 e n) (omega (arith, q.1.3)) q.1))
          | inr j ↦ inl (inl (subst (λ b. WheelsUpTo t 5 s b 5 e n) (omega (arith, q.1.3)) q.1))
        ]
      ]

pub placed_as : {t : List ℕ} {s : Strips} {rows r : ℕ} → rows ≡ r → Placed t rows s → Placed t r s
placed_as {t} {s} e z = subst (λ n. Placed t n s) e z

-- where the strips of a pinwheel stand in the table
pub record Stands (columns rows a c j l : ℕ) (s : Strips) : Type 0 where
  pub start : s.start ≡ pair_no columns a j * pair_count rows
  pub middle : s.middle ≡ pair_no columns j l * pair_count rows
  pub end : s.end ≡ pair_no columns l c * pair_count rows
  pub left : s.left ≡ pair_no columns a l * pair_count rows
  pub right : s.right ≡ pair_no columns j c * pair_count rows

pub stands : (columns rows a c j l pairs : ℕ) {u v w x y : ℕ} → pairs ≡ pair_count rows
    → u ≡ pair_no columns a j → v ≡ pair_no columns j l → w ≡ pair_no columns l c → x ≡ pair_no columns a l → y ≡ pair_no columns j c
    → Stands columns rows a c j l (record { start = u * pairs; middle = v * pairs; end = w * pairs; left = x * pairs; right = y * pairs })
stands columns rows a c j l pairs e eu ev ew ex ey =
    record { start = ap₂ ◌*◌ eu e; middle = ap₂ ◌*◌ ev e; end = ap₂ ◌*◌ ew e; left = ap₂ ◌*◌ ex e; right = ap₂ ◌*◌ ey e }

-- the numbers of x pairs times the count of y pairs
pub row_fits : {rows pairs x : ℕ} → rows ≤ 5 → pairs ≡ pair_count rows → x ≤ 240 → Fits w64 (x * pairs)
row_fits {rows} {pairs} {x} h e k = record { fits = omega (arith, row-most x pairs k (omega (arith, count_small rows h))) }

module _ (t : List ℕ) (columns rows a c : ℕ) where
  module _ {j l : ℕ} {s : Strips} (z : Stands columns rows a c j l s) where
    weight-same : (turn : Turn) (b k m d : ℕ) → weight_in t rows s turn b k m d ≡ weight_of t (wheel_in columns rows (box a c b d) (wheel turn j l k m))
    unfolding weight_in weight_of wheel_in part_no parts entry_of
    weight-same First b k m d = cc
    weight-same Second b k m d = cc

    pub placed_in : Weighable t columns rows a c → a < j → j < l → l < c → Placed t rows s
    unfolding entry_count
    placed_in y aj jl lc =
        record {
          rows-most = y.rows-most;
          left = row a l (omega arith) (omega (arith, y.cx)) z.left;
          end = row l c lc y.cx z.end;
          start = row a j aj (omega (arith, y.cx)) z.start;
          right = row j c (omega arith) y.cx z.right;
          middle = row j l jl (omega (arith, y.cx)) z.middle;
          sums =
              λ turn b k m d o.
              subst (λ n. n < 2 ^ 32) (sym (weight-same turn b k m d))
              (y.sums turn b d j l k m o.dy (record { aj = aj; jl = jl; lc = lc; bk = o.bk; km = o.km; md = o.md }));
        }
      where
        row : (i k : ℕ) {at : ℕ} → i < k → k ≤ columns → at ≡ pair_no columns i k * pair_count rows → at + pair_count rows ≤ length t
        row i k h g e = omega (arith, y.entries, row_before (pair_no columns i k) (pair_count columns) (pair_count rows) (pair-below columns i k h g))

    pub lines-lower : {x y : List ℕ} → Lowered (EveryWheel t rows s) x y → Lowered (OfLines t columns rows a c j l) x y
    unfolding EveryWheel WheelsUpTo WheelsAt OfLines
    lines-lower {x} {y} w = lowered_as (EveryWheel t rows s) (OfLines t columns rows a c j l) x y to from w
      where
        to : (e v : ℕ) → EveryWheel t rows s e v → OfLines t columns rows a c j l e v
        to e v q =
            let r = q.1 in
            let i = r.4 in
            (i.0, q.0, r.0, r.1, r.2, r.3, i.1, i.2 ∙ weight-same i.0 q.0 r.0 r.1 r.2)

        from : (e v : ℕ) → OfLines t columns rows a c j l e v → EveryWheel t rows s e v
        from e v q = (q.1, (q.2, q.3, q.4, q.5, (q.0, q.6, q.7 ∙ sym (weight-same q.0 q.1 q.2 q.3 q.4))))

  -- all lines l above j
  pub line-end : (j l : ℕ) {x y : List ℕ} → l ≤ c → c ≤ l → Lowered (Among (j + 1) l (OfLines t columns rows a c j)) x y → Lowered (OfLine t columns rows a c j) x y
  unfolding OfLine
  line-end j l {x} {y} h k w = among-end (j + 1) l c (OfLines t columns rows a c j) x y h k w

  -- all pinwheels of a piece
  pub least-wheel : {x y : List ℕ} → Lowered (Among (a + 1) c (OfLine t columns rows a c)) x y → (b d : ℕ) → b < d → d ≤ rows
      → LeastWheel t columns rows (box a c b d) (get_or x (pair_no rows b d) 0) (get_or y (pair_no rows b d) 0)
  unfolding Among OfLine OfLines
  least-wheel {x} {y} w b d h k =
      record {
        below = w.below (pair_no rows b d);
        under =
            λ turn j l i m o.
            w.under (pair_no rows b d) (weight_of t (wheel_in columns rows (box a c b d) (wheel turn j l i m)))
            (j, omega (arith, o.aj), omega (arith, o.jl, o.lc), (l, omega (arith, o.jl), o.lc, (turn, b, i, m, d, record { bk = o.bk; km = o.km; md = o.md; dy = k }, refl, refl)));
        above = λ n g q. w.above (pair_no rows b d) n g (λ v u. each n q v u);
      }
    where
      each : (n : ℕ) → ((turn : Turn) (j l i m : ℕ) → Inner (box a c b d) j l i m → n ≤ weight_of t (wheel_in columns rows (box a c b d) (wheel turn j l i m)))
          → (v : ℕ) → Among (a + 1) c (OfLine t columns rows a c) (pair_no rows b d) v → n ≤ v
      each n q v u =
          let j = u.0 in
          let r = u.3 in
          let l = r.0 in
          let f = r.3 in
          let o = f.5 in
          let p = pair_same rows b d f.1 f.4 h k (omega (arith, o)) o.dy f.6 in
          let i : Inner (box a c b d) j l f.2 f.3 = record { aj = omega (arith, u.1); jl = omega (arith, r.1); lc = r.2; bk = omega (arith, o.bk, p.0); km = o.km; md = omega (arith, o.md, p.1) } in
          let e : weight_of t (wheel_in columns rows (box a c b d) (wheel f.0 j l f.2 f.3)) ≡ weight_of t (wheel_in columns rows (box a c f.1 f.4) (wheel f.0 j l f.2 f.3)) =
          ap₂ (λ b' d'. weight_of t (wheel_in columns rows (box a c b' d') (wheel f.0 j l f.2 f.3))) p.0 p.1 in
          omega (arith, q f.0 j l f.2 f.3 i, e, f.7)
