-- Sums over the cells of a piece. Assumes nothing.
--
--   Within p i j                      == the cell (i, j) lies in the piece p
--   sum_vertical, sum_horizontal      == a cut shares out a sum over cells
--   sum_le, sum_same, sum_tight       == cell by cell: at most, the same, and equal where the sums are
--   sum_term, sum_part                == one cell's share; a piece within another
--   sum_add, sum_mul, sum_pick        == a sum of sums, a factor, one cell picked out
--   cells-some, cells-short, cells-product, cells-a, cells-b   == how many cells a piece has, and that it has some
use Prim.Native.Nat.{ℕ, suc, ◌+◌, ◌*◌, ◌-◌, ◌≤◌, ◌<◌}
use mathlib.Core.Path.{◌≡◌, ◌∙◌, ap}
use mathlib.Core.Bool.{Bool, ◌&&◌}
use mathlib.Core.Logic.{inl, inr}
use native.Mathlib.Omega.{arith}
use lib.Dec.{leb, ltb, eqb}
use Rattle.sum.specs.Sum.{over, only}
use Rattle.sum.proofs.Sum as sum
use Rattle.piece.specs.Piece.{Piece, left_part, right_part, lower_part, upper_part, holds, cell_sum, cells}

pub sum_vertical : (f : ℕ → ℕ → ℕ) (p : Piece) (j : ℕ) → p.a ≤ j → j ≤ p.c → cell_sum f p ≡ cell_sum f (left_part p j) + cell_sum f (right_part p j)
unfolding cell_sum
sum_vertical f p j h k = sum.over-cut p.a j p.c (λ i. over p.b p.d (f i)) h k

pub sum_horizontal : (f : ℕ → ℕ → ℕ) (p : Piece) (j : ℕ) → p.b ≤ j → j ≤ p.d → cell_sum f p ≡ cell_sum f (lower_part p j) + cell_sum f (upper_part p j)
unfolding cell_sum
sum_horizontal f p j h k =
    sum.over-same p.a p.c (λ i. over p.b p.d (f i)) (λ i. over p.b j (f i) + over j p.d (f i))
    (λ i q r. sum.over-cut p.b j p.d (f i) h k)
    ∙ sum.over_add p.a p.c (λ i. over p.b j (f i)) (λ i. over j p.d (f i))

-- the cell (i, j) lies in the piece
pub record Within (p : Piece) (i j : ℕ) : Type 0 where
  pub a : p.a ≤ i
  pub c : i < p.c
  pub b : p.b ≤ j
  pub d : j < p.d

pub sum_le : (f g : ℕ → ℕ → ℕ) (p : Piece) → ((i j : ℕ) → Within p i j → f i j ≤ g i j) → cell_sum f p ≤ cell_sum g p
unfolding cell_sum
sum_le f g p h =
    sum.over-le p.a p.c _ _ (λ i q r. sum.over-le p.b p.d (f i) (g i) (λ j s t. h i j (record { a = q; c = r; b = s; d = t })))

pub sum_same : (f g : ℕ → ℕ → ℕ) (p : Piece) → ((i j : ℕ) → Within p i j → f i j ≡ g i j) → cell_sum f p ≡ cell_sum g p
sum_same f g p h =
    omega (arith, sum_le f g p (λ i j w. omega (arith, h i j w)), sum_le g f p (λ i j w. omega (arith, h i j w)))

pub sum_term : (f : ℕ → ℕ → ℕ) (p : Piece) (i j : ℕ) → Within p i j → f i j ≤ cell_sum f p
unfolding cell_sum
sum_term f p i j w =
    omega (
      arith,
      sum.over_term p.a p.c i (λ i. over p.b p.d (f i)) w.a w.c,
      sum.over_term p.b p.d j (f i) w.b w.d,
    )

pub sum_tight : (f g : ℕ → ℕ → ℕ) (p : Piece) → ((i j : ℕ) → Within p i j → f i j ≤ g i j) → cell_sum f p ≡ cell_sum g p
    → (i j : ℕ) → Within p i j → f i j ≡ g i j
unfolding cell_sum
sum_tight f g p h e i j w =
    sum.over_tight p.b p.d j (f i) (g i) (λ k s t. h i k (record { a = w.a; c = w.c; b = s; d = t }))
    (sum.over_tight p.a p.c i (λ i. over p.b p.d (f i)) (λ i. over p.b p.d (g i))
    (λ k q r. sum.over-le p.b p.d (f k) (g k) (λ j s t. h k j (record { a = q; c = r; b = s; d = t }))) e w.a w.c)
    w.b
    w.d

pub sum_add : (f g : ℕ → ℕ → ℕ) (p : Piece) → cell_sum (λ i j. f i j + g i j) p ≡ cell_sum f p + cell_sum g p
unfolding cell_sum
sum_add f g p =
    sum.over-same p.a p.c _ (λ i. over p.b p.d (f i) + over p.b p.d (g i)) (λ i q r. sum.over_add p.b p.d (f i) (g i))
    ∙ sum.over_add p.a p.c (λ i. over p.b p.d (f i)) (λ i. over p.b p.d (g i))

pub sum_mul : (n : ℕ) (f : ℕ → ℕ → ℕ) (p : Piece) → cell_sum (λ i j. n * f i j) p ≡ n * cell_sum f p
unfolding cell_sum
sum_mul n f p =
    sum.over-same p.a p.c _ (λ i. n * over p.b p.d (f i)) (λ i q r. sum.over-mul p.b p.d n (f i))
    ∙ sum.over-mul p.a p.c n (λ i. over p.b p.d (f i))

pub sum_part : (f : ℕ → ℕ → ℕ) (p q : Piece) → q.a ≤ p.a → p.a ≤ p.c → p.c ≤ q.c → q.b ≤ p.b → p.b ≤ p.d → p.d ≤ q.d → cell_sum f p ≤ cell_sum f q
unfolding cell_sum
sum_part f p q a ac c b bd d =
    omega (
      arith,
      sum.over-part p.a p.c q.a q.c (λ i. over p.b p.d (f i)) a ac c,
      sum.over-le q.a q.c (λ i. over p.b p.d (f i)) (λ i. over q.b q.d (f i)) (λ i h k. sum.over-part p.b p.d q.b q.d (f i) b bd d),
    )

-- a piece with cells
pub cells-some : (p : Piece) → p.a < p.c → p.b < p.d → 0 < cells p
unfolding cells
cells-some p h k =
    sum_term (λ i j. 1) p p.a p.b (record { a = omega arith; c = h; b = omega arith; d = k })

over-short : (a c : ℕ) (f : ℕ → ℕ) → c ≤ suc a → over a c f ≤ f a
over-short a c f h = elim (sum.le-or c a) [
  | inl q ↦ omega (arith, sum.over_none a c f q)
  | inr q ↦ (let e : c ≡ suc a = omega arith in rw e (omega (arith, sum.over-one a f)))
]

pub cells-short : (p : Piece) → p.c ≤ suc p.a → p.d ≤ suc p.b → cells p ≤ 1
unfolding cells cell_sum
cells-short p h k =
    omega (arith, over-short p.a p.c (λ i. over p.b p.d (λ j. 1)) h, over-short p.b p.d (λ j. 1) k)

pub cells-product : (p : Piece) → p.a ≤ p.c → p.b ≤ p.d → cells p ≡ (p.c - p.a) * (p.d - p.b)
unfolding cells cell_sum
cells-product p h k =
    sum.over-same p.a p.c _ (λ i. (p.d - p.b) * 1) (λ i q r. omega (arith, long p.b p.d k))
    ∙ sum.over-mul p.a p.c (p.d - p.b) (λ i. 1)
    ∙ ap (λ n. (p.d - p.b) * n) (long p.a p.c h)
    ∙ omega arith
  where
    long : (a c : ℕ) → a ≤ c → over a c (λ k. 1) ≡ c - a
    long a c h = omega (arith, sum.over_ones a c, sum.over_none c a (λ k. 1) h)

pub cells-b : (p : Piece) → 0 < cells p → p.b < p.d
unfolding cells cell_sum
cells-b p h = elim (sum.le-or p.d p.b) [
  | inl q ↦ absurd (omega (arith, sum.over_zero p.a p.c (λ i. over p.b p.d (λ j. 1)) (λ i r s. sum.over_none p.b p.d (λ j. 1) q)))
  | inr q ↦ q
]

pub cells-a : (p : Piece) → 0 < cells p → p.a < p.c
unfolding cells cell_sum
cells-a p h = elim (sum.le-or p.c p.a) [
  | inl q ↦ absurd (omega (arith, sum.over_none p.a p.c (λ i. over p.b p.d (λ j. 1)) q))
  | inr q ↦ q
]

-- one cell picked out
pub sum_pick : (i j n : ℕ) (p : Piece) → cell_sum (λ u v. only (eqb u i) (only (eqb v j) n)) p ≡ only (holds i j p) n
unfolding cell_sum holds
sum_pick i j n p =
    sum.over-same p.a p.c _ (λ u. only (eqb u i) (only t n))
    (λ u q r. sum.only-over (eqb u i) p.b p.d (λ v. only (eqb v j) n) ∙ ap (only (eqb u i)) (sum.over_pick p.b p.d j n))
    ∙ sum.over_pick p.a p.c i (only t n)
    ∙ sum.only-only (leb p.a i && ltb i p.c) t n
  where
    t : Bool
    t = leb p.b j && ltb j p.d
