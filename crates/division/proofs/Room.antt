-- How many shots a division can make: 116,964 at most, so that counts and costs fit 32 bits. Assumes nothing.
--
--   count_add            == two sides one after the other are divided into no more parts than the two apart
--   count-over           == nor is a run of lines into more than its stretches
--   times_over           == a product of two sums over lines is a sum over cells
--   lines-most           == the stretches between 16 lines or fewer have together 342 parts at most
--   divided-most         == the divided shots of a grid are 342 x 342 at most, in either mode
use Prim.Native.Nat.{ℕ, zero, suc, ◌+◌, ◌*◌, ◌-◌, ◌≤◌, ◌<◌}
use mathlib.Core.Path.{◌≡◌, sym, ◌∙◌, ap}
use mathlib.Core.Logic.{inl, inr}
use native.Mathlib.Omega.{arith}
use native.Mathlib.Nat.{mul-le-mul, mul-le-mul_left, mul_comm, mul-add, div-add-mod, mod-lt}
use Rattle.sum.specs.Sum.{only, over, sum_of}
use Rattle.sum.proofs.Sum as sum
use Rattle.sum.proofs.Sum.{le-or, rise, only-most}
use Rattle.sum.proofs.Lists.{sum_of-le, All-imp}
use Rattle.outline.specs.Grid.{Grid, Sound}
use Rattle.rule.specs.declared.Rule.{Rule}
use Rattle.piece.specs.declared.Mode.{Mode}
use Rattle.piece.specs.Piece.{Piece, box, rectangle, cell_sum, frame}
use Rattle.piece.specs.Cuts.{shots}
use Rattle.piece.proofs.Cells.{sum_le}
use Rattle.piece.proofs.Cuts.{Part, shots-part, cover}
use Rattle.division.specs.Division.{part_count, product}

module _ (m : ℕ) (pos : 0 < m) where
  count_low : (side : ℕ) → side ≤ m * part_count m side
  count_low side = unfold part_count in omega (arith, div-add-mod (side + (m - 1)) m, mod-lt (side + (m - 1)) pos)

  count-high : (side : ℕ) → m * part_count m side < side + m
  count-high side = unfold part_count in omega (arith, div-add-mod (side + (m - 1)) m)

  pub count_add : (a b : ℕ) → part_count m (a + b) ≤ part_count m a + part_count m b
  count_add a b = elim (le-or (part_count m (a + b)) (part_count m a + part_count m b)) [
    | inl q ↦ q
    | inr q ↦
        absurd (omega (
          arith,
          count_low a,
          count_low b,
          count-high (a + b),
          mul-le-mul_left m q,
          mul-add m (part_count m a) (part_count m b),
        ))
  ]

  pub count-over : (f : ℕ → ℕ) → ((i : ℕ) → f i ≤ f (suc i)) → (a c : ℕ) → a ≤ c → part_count m (f c - f a) ≤ over a c (λ i. part_count m (f (suc i) - f i))
  count-over f up a zero h = let e : a ≡ 0 = omega arith in omega (arith, none (f 0 - f a) (omega (arith, ap f e)))
    where
      none : (n : ℕ) → n ≡ 0 → part_count m n ≤ 0
      none n e = elim (le-or (part_count m n) 0) [
        | inl q ↦ q
        | inr q ↦ absurd (omega (arith, count-high n, mul-le-mul_left m q))
      ]
  count-over f up a (suc c) h = elim (le-or a c) [
    | inr q ↦ (let e : a ≡ suc c = omega arith in omega (arith, same (f (suc c) - f a) (omega (arith, ap f e))))
    | inl q ↦
        omega (
          arith,
          count-over f up a c q,
          sum.over_last a c (λ i. part_count m (f (suc i) - f i)) q,
          count_add (f c - f a) (f (suc c) - f c),
          ap (part_count m) (split (f a) (f c) (f (suc c)) (rise f up a c q) (up c)),
        )
  ]
    where
      same : (n : ℕ) → n ≡ 0 → part_count m n ≤ 0
      same n e = elim (le-or (part_count m n) 0) [
        | inl q ↦ q
        | inr q ↦ absurd (omega (arith, count-high n, mul-le-mul_left m q))
      ]

      split : (x y z : ℕ) → x ≤ y → y ≤ z → z - x ≡ (y - x) + (z - y)
      split x y z h k = omega arith

  -- the parts of all stretches
  pub lines-most : 200 ≤ m → (f : ℕ → ℕ) → ((i : ℕ) → f i ≤ f (suc i)) → (n : ℕ) → n ≤ 15 → f n ≤ 65535 → over 0 n (λ i. part_count m (f (suc i) - f i)) ≤ 342
  lines-most h f up n few most = elim (le-or (over 0 n (λ i. part_count m (f (suc i) - f i))) 342) [
    | inl q ↦ q
    | inr q ↦ absurd (much (over 0 n (λ i. part_count m (f (suc i) - f i))) (summed n) q)
  ]
    where
      summed : (n : ℕ) → m * over 0 n (λ i. part_count m (f (suc i) - f i)) + n ≤ (f n - f 0) + n * m
      summed zero = omega (arith, ap (λ k. m * k) (sum.over_none 0 0 (λ i. part_count m (f (suc i) - f i)) (omega arith)))
      summed (suc k) =
          omega (
            arith,
            summed k,
            count-high (f (suc k) - f k),
            ap (λ v. m * v) (sum.over_last 0 k (λ i. part_count m (f (suc i) - f i)) (omega arith)),
            mul-add m (over 0 k (λ i. part_count m (f (suc i) - f i))) (part_count m (f (suc k) - f k)),
            rise f up 0 k (omega arith),
            up k,
          )

      much : (v : ℕ) → m * v + n ≤ (f n - f 0) + n * m → 342 < v → ⊥
      much v e q =
          omega (
            arith,
            most,
            mul-le-mul {n₁ = 200} {m₁ = v - n} {n₂ = m} {m₂ = v - n} h (omega arith),
            mul_comm n m,
            mul-add m (v - n) n,
            ap (λ k. m * k) back,
          )
        where
          back : v ≡ (v - n) + n
          back = omega arith

-- a product of two sums over lines is a sum over cells
pub times_over : (f h : ℕ → ℕ) (p : Piece) → over p.a p.c f * over p.b p.d h ≡ cell_sum (λ i j. f i * h j) p
unfolding cell_sum
times_over f h p =
    mul_comm (over p.a p.c f) (over p.b p.d h)
    ∙ sym (sum.over-mul p.a p.c (over p.b p.d h) f)
    ∙ sum.over-same p.a p.c _ _ (λ i q r. mul_comm (over p.b p.d h) (f i) ∙ sym (sum.over-mul p.b p.d (f i) h))

module _ (mode : Mode) (g : Grid) (r : Rule) (s : Sound g) (m : ℕ) (least : 200 ≤ m) where
  -- the parts of a cell, by its column and its row
  abbrev column : ℕ → ℕ
  column i = part_count m (g.x (suc i) - g.x i)

  abbrev row : ℕ → ℕ
  row j = part_count m (g.y (suc j) - g.y j)

  product-cells : (p : Piece) → p.a < p.c → p.b < p.d → product m (rectangle g p) ≤ cell_sum (λ i j. column i * row j) p
  unfolding product
  product-cells p ac bd =
      omega (
        arith,
        mul-le-mul (count-over m (omega arith) g.x s.x-up p.a p.c (omega arith)) (count-over m (omega arith) g.y s.y-up p.b p.d (omega arith)),
        times_over column row p,
      )

  pub divided-most : sum_of (λ p. product m (rectangle g p)) (shots mode g r (frame g)) ≤ 116964
  divided-most =
      omega (
        arith,
        sum_of-le (λ p. product m (rectangle g p)) (cell_sum (λ i j. column i * row j)) (shots mode g r (frame g))
            (All-imp {P = λ q. Part q (frame g)} (λ q v. product-cells q v.ac v.bd) (shots mode g r (frame g)) (shots-part mode g r (frame g))),
        cover mode g r (λ i j. column i * row j) (frame g),
        sum_le (λ i j. only (g.inside i j) (column i * row j)) (λ i j. column i * row j) (frame g) (λ i j q. only-most (g.inside i j) (column i * row j)),
        whole,
      )
    where
      whole : cell_sum (λ i j. column i * row j) (frame g) ≤ 116964
      whole =
          unfold frame in
          omega (
            arith,
            times_over column row (box 0 g.columns 0 g.rows),
            mul-le-mul (lines-most m (omega arith) least g.x s.x-up g.columns s.columns-most (s.x-most g.columns)) (lines-most m (omega arith) least g.y s.y-up g.rows s.rows-most (s.y-most g.rows)),
          )
