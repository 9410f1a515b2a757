-- Laws of pair numbers, cells and rows that run along in a fill. Assumes nothing.
--
--   cells-more, cells_fit, cells-most   == the cells of a piece that is one row higher; there are at most 225
--   Dec-eq                              == equal or not
--   first-all, first_back, first-enough == the number of the first pair that begins at a line, from the last line down
--   row_before, row-most                == rows of the table: one ends before the next begins
--   Pairs, pairs_of                     == the numbers of the pairs (a, j), (j, c) and (a, c), for a cut at j
use Prim.Native.Nat.{ℕ, suc, ◌+◌, ◌*◌, ◌-◌, ◌≤◌, ◌<◌}
use mathlib.Core.Path.{◌≡◌, refl, ap}
use mathlib.Core.Bool.{Bool, true, false}
use mathlib.Core.Logic.{◌⊎◌, inl, inr}
use native.Mathlib.Omega.{arith}
use native.Mathlib.Nat.{mul-le-mul, mul-le-mul_right, suc-mul}
use lib.Dec.{eqb}
use borrow.Author.Tests.{eqb-true, eqb-false}
use Rattle.table.specs.Entry.{pairs_below, pair_count, pair_no}
use Rattle.table.proofs.Entry

-- a row of cells more
pub cells-more : (b d wide n : ℕ) → b < d → n ≡ (d - 1 - b) * wide → n + wide ≡ (d - b) * wide
cells-more b d wide n h e =
    let z : d - b ≡ suc (d - 1 - b) = omega arith in
    omega (arith, suc-mul (d - 1 - b) wide, ap (λ m. m * wide) z)

pub cells_fit : (h wide : ℕ) → h ≤ 15 → wide ≤ 15 → h * wide ≤ 225
cells_fit h wide k l = mul-le-mul {n₁ = h} {m₁ = wide} {n₂ = 15} {m₂ = 15} k l

pub cells-most : (b d wide rows : ℕ) → d ≤ rows → rows ≤ 15 → wide ≤ 15 → (d - b) * wide ≤ 225
cells-most b d wide rows h k l = cells_fit (d - b) wide (omega arith) l

-- equal or not
pub Dec-eq : (n m : ℕ) → (n ≡ m) ⊎ (n ≡ m → ⊥)
Dec-eq n m = go (eqb n m) refl
  where
    go : (t : Bool) → eqb n m ≡ t → (n ≡ m) ⊎ (n ≡ m → ⊥)
    go true e = inl (eqb-true n m e)
    go false e = inr (eqb-false n m e)

-- the numbers of the first pairs of lines, from the last line down
pub first-all : (rows pairs : ℕ) → pairs ≡ pair_count rows → pairs ≡ pairs_below rows rows
unfolding pair_count
first-all rows pairs e = e

pub first_back : (rows b first : ℕ) → 0 < b → first ≡ pairs_below rows b → first - (rows - (b - 1)) ≡ pairs_below rows (b - 1)
first_back rows b first h e =
    let z : b - 1 + 1 ≡ b = omega arith in
    omega (arith, Entry.below_next rows (b - 1), ap (pairs_below rows) z)

pub first-enough : (rows b first : ℕ) → 0 < b → first ≡ pairs_below rows b → rows - (b - 1) ≤ first
first-enough rows b first h e =
    let z : b - 1 + 1 ≡ b = omega arith in
    omega (arith, Entry.below_next rows (b - 1), ap (pairs_below rows) z)

-- rows of the table
pub row_before : (x y m : ℕ) → x < y → x * m + m ≤ y * m
row_before x y m h = rw suc-mul at (mul-le-mul_right m h)

pub row-most : (x m : ℕ) → x ≤ 240 → m ≤ 225 → x * m ≤ 54000
row-most x m h k = mul-le-mul h k

-- the numbers of the pairs (a, j) and (j, c), and of (a, c)
pub record Pairs (columns a c j first ahead : ℕ) : Type 0 where
  pub first-at : first + (c - a - 1) ≡ pair_no columns a c
  pub low-at : first + (j - a - 1) ≡ pair_no columns a j
  pub high-at : ahead + (c - j - 1) ≡ pair_no columns j c
  pub low-before : pair_no columns a j < pair_no columns a c
  pub high_after : pair_no columns a c < pair_no columns j c
  pub high-below : pair_no columns j c < pair_count columns

pub pairs_of : (columns a c j first ahead : ℕ) → a < j → j < c → c ≤ columns → first ≡ pairs_below columns a → ahead ≡ pairs_below columns j
    → Pairs columns a c j first ahead
unfolding pair_no
pairs_of columns a c j first ahead h k l e f =
    record {
      first-at = omega arith;
      low-at = omega arith;
      high-at = omega arith;
      low-before = omega arith;
      high_after = omega (arith, Entry.below_suc columns a, Entry.below_up columns (suc a) j h);
      high-below = Entry.pair-below columns j c k l;
    }
