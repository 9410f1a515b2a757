-- Sums over pairs of lines, and the lines within all pieces. Assumes nothing.
--
--   pairs-le, pairs-same         == pair by pair: at most, the same
--   pairs-add, pairs-mul         == a sum of sums, a factor
--   pairs_ones, pairs-lines      == the pairs, and the lines between each of them, by a formula
--   lines-all                    == the lines within all pieces, by the numbers of columns and rows
--   pairs-closed, lines-closed   == pairs and triples of lines
--   lines-most                   == with at most 16 lines each way there are at most 134,400
use Prim.Native.Nat.{ℕ, zero, suc, ◌+◌, ◌*◌, ◌-◌, ◌≤◌, ◌<◌}
use mathlib.Core.Path.{◌≡◌, ◌∙◌, ap, ap₂}
use native.Mathlib.Omega.{arith}
use native.Mathlib.Nat.{mul-le-mul}
use Rattle.sum.specs.Sum.{over}
use Rattle.sum.proofs.Sum.{over_none, over_last, over-le, over-same, over_add, over-mul, over_ones}
use Rattle.piece.specs.Piece.{box}
use Rattle.demands.specs.Cuts.{lines_within, line_pairs, two, three}

pub pairs-le : (n : ℕ) (f h : ℕ → ℕ → ℕ) → ((i j : ℕ) → i < j → j ≤ n → f i j ≤ h i j) → line_pairs n f ≤ line_pairs n h
unfolding line_pairs
pairs-le n f h q = over-le 0 n _ _ (λ i k l. over-le (suc i) (suc n) (f i) (h i) (λ j s t. q i j s (omega arith)))

pub pairs-same : (n : ℕ) (f h : ℕ → ℕ → ℕ) → ((i j : ℕ) → i < j → j ≤ n → f i j ≡ h i j) → line_pairs n f ≡ line_pairs n h
pairs-same n f h q =
    omega (
      arith,
      pairs-le n f h (λ i j s t. omega (arith, q i j s t)),
      pairs-le n h f (λ i j s t. omega (arith, q i j s t)),
    )

pub pairs-add : (n : ℕ) (f h : ℕ → ℕ → ℕ) → line_pairs n (λ i j. f i j + h i j) ≡ line_pairs n f + line_pairs n h
unfolding line_pairs
pairs-add n f h =
    over-same 0 n _ (λ i. over (suc i) (suc n) (f i) + over (suc i) (suc n) (h i)) (λ i k l. over_add (suc i) (suc n) (f i) (h i))
    ∙ over_add 0 n (λ i. over (suc i) (suc n) (f i)) (λ i. over (suc i) (suc n) (h i))

pub pairs-mul : (n k : ℕ) (f : ℕ → ℕ → ℕ) → line_pairs n (λ i j. k * f i j) ≡ k * line_pairs n f
unfolding line_pairs
pairs-mul n k f =
    over-same 0 n _ (λ i. k * over (suc i) (suc n) (f i)) (λ i s t. over-mul (suc i) (suc n) k (f i))
    ∙ over-mul 0 n k (λ i. over (suc i) (suc n) (f i))

-- one line more
pairs-more : (n : ℕ) (f : ℕ → ℕ → ℕ) → line_pairs (suc n) f ≡ line_pairs n f + over 0 (suc n) (λ i. f i (suc n))
unfolding line_pairs
pairs-more n f =
    over-same 0 (suc n) _ (λ i. over (suc i) (suc n) (f i) + f i (suc n)) (λ i k l. over_last (suc i) (suc n) (f i) l)
    ∙ over_add 0 (suc n) (λ i. over (suc i) (suc n) (f i)) (λ i. f i (suc n))
    ∙ ap (λ m. m + over 0 (suc n) (λ i. f i (suc n)))
    (omega (arith, over_last 0 n (λ i. over (suc i) (suc n) (f i)) (omega arith), over_none (suc n) (suc n) (f n) (omega arith)))

-- the numbers below n
below : (n : ℕ) → 2 * over 0 (suc n) (λ i. i) ≡ n * suc n
below zero = omega (arith, over_last 0 0 (λ i. i) (omega arith), over_none 0 0 (λ i. i) (omega arith))
below (suc n) = omega (arith, over_last 0 (suc n) (λ i. i) (omega arith), below n)

so_many : (n k : ℕ) → over 0 n (λ i. k) ≡ n * k
so_many n k =
    over-same 0 n (λ i. k) (λ i. k * 1) (λ i p q. omega arith)
    ∙ over-mul 0 n k (λ i. 1)
    ∙ omega (arith, ap (λ m. k * m) (ones n))
  where
    ones : (n : ℕ) → over 0 n (λ i. 1) ≡ n
    ones n = omega (arith, over_ones 0 n, over_none n 0 (λ i. 1) (omega arith))

-- the lines above each of the lines 0 to n
above : (n : ℕ) → 2 * over 0 (suc n) (λ i. suc n - suc i) ≡ n * suc n
above n =
    omega (
      arith,
      below n,
      over_add 0 (suc n) (λ i. suc n - suc i) (λ i. i),
      over-same 0 (suc n) (λ i. (suc n - suc i) + i) (λ i. n) (λ i p q. omega arith),
      so_many (suc n) n,
    )

pub pairs_ones : (n : ℕ) → 2 * line_pairs n (λ i j. 1) ≡ n * suc n
unfolding line_pairs
pairs_ones zero = omega (arith, over_none 0 0 (λ i. over (suc i) 1 (λ j. 1)) (omega arith))
pairs_ones (suc n) = omega (arith, pairs-more n (λ i j. 1), so_many (suc n) 1, pairs_ones n)

pub pairs-lines : (n : ℕ) → 6 * line_pairs n (λ i j. j - suc i) + n ≡ n * n * n
unfolding line_pairs
pairs-lines zero = omega (arith, over_none 0 0 (λ i. over (suc i) 1 (λ j. j - suc i)) (omega arith))
pairs-lines (suc n) = omega (arith, pairs-more n (λ i j. j - suc i), above n, pairs-lines n)

-- the lines within all pieces
abbrev pub every_line : ℕ → ℕ → ℕ
every_line columns rows = line_pairs columns (λ a c. line_pairs rows (λ b d. lines_within (box a c b d)))

module _ (m n : ℕ) where
  abbrev pairs : ℕ → ℕ
  pairs k = line_pairs k (λ i j. 1)

  abbrev within : ℕ → ℕ
  within k = line_pairs k (λ i j. j - suc i)

  pub lines-all : every_line m n ≡ within m * pairs n + pairs m * within n
  unfolding lines_within
  lines-all =
      pairs-same m _ (λ a c. pairs n * (c - suc a) + within n * 1) (λ a c h k. inner (c - suc a))
      ∙ pairs-add m (λ a c. pairs n * (c - suc a)) (λ a c. within n * 1)
      ∙ ap₂ ◌+◌ (pairs-mul m (pairs n) (λ a c. c - suc a)) (pairs-mul m (within n) (λ a c. 1))
      ∙ omega arith
    where
      inner : (k : ℕ) → line_pairs n (λ b d. k + (d - suc b)) ≡ pairs n * k + within n * 1
      inner k =
          pairs-add n (λ b d. k) (λ b d. d - suc b)
          ∙ ap (λ v. v + within n) (pairs-same n (λ b d. k) (λ b d. k * 1) (λ b d p q. omega arith) ∙ pairs-mul n k (λ b d. 1))
          ∙ omega arith

-- by the numbers of lines
pub pairs-closed : (n : ℕ) → line_pairs n (λ i j. 1) ≡ two (suc n)
pairs-closed n =
    let e : suc n - 1 ≡ n = omega arith in
    omega (arith, pairs_ones n, ap (λ k. suc n * k) e)

pub lines-closed : (n : ℕ) → line_pairs n (λ i j. j - suc i) ≡ three (suc n)
lines-closed zero = omega (arith, pairs-lines 0)
lines-closed (suc n) =
    let e : suc (suc n) - 1 ≡ suc n = omega arith in
    let f : suc (suc n) - 2 ≡ n = omega arith in
    omega (arith, pairs-lines (suc n), ap₂ (λ k l. suc (suc n) * k * l) e f)

few-pairs : (n : ℕ) → n ≤ 15 → line_pairs n (λ i j. 1) ≤ 120
few-pairs n h = omega (arith, pairs_ones n, mul-le-mul {n₁ = n} {m₁ = suc n} {n₂ = 15} {m₂ = 16} h (omega arith))

few-lines : (n : ℕ) → n ≤ 15 → line_pairs n (λ i j. j - suc i) ≤ 560
few-lines zero h = omega (arith, pairs-lines 0)
few-lines (suc n) h =
    omega (
      arith,
      pairs-lines (suc n),
      mul-le-mul {n₁ = n} {m₁ = suc n * suc (suc n)} {n₂ = 14} {m₂ = 240} (omega arith)
          (mul-le-mul {n₁ = suc n} {m₁ = suc (suc n)} {n₂ = 15} {m₂ = 16} h (omega arith)),
    )

-- the most that any figure can have
pub lines-most : (m n : ℕ) → m ≤ 15 → n ≤ 15 → every_line m n ≤ 134400
lines-most m n h k =
    omega (
      arith,
      lines-all m n,
      mul-le-mul {n₂ = 560} {m₂ = 120} (few-lines m h) (few-pairs n k),
      mul-le-mul {n₂ = 120} {m₂ = 560} (few-pairs m h) (few-lines n k),
    )
