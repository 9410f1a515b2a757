-- Laws of storing the strips of one width, a row of the table each, times the weight. Assumes nothing.
--
--   scaled_at, scaled_fits
--                 == a number of a lane times the weight, read off, and that it fits
--   row_here      == the number of the row of a strip
--   row-above     == the rows of two strips, one before the other
--   row_fits, block_fits
--                 == where a row and a part of the store begin fits
--   block_room    == the lane of a strip lies within the store
--   Rows, rows-*  == the strips that begin below the line a are stored
use Prim.Native.Nat.{ℕ, suc, ◌+◌, ◌*◌, ◌-◌, ◌≤◌, ◌<◌, ◌^◌}
use mathlib.Core.Path.{◌≡◌, refl, sym, ◌∙◌, ap, subst}
use mathlib.Core.Logic.{◌⊎◌, inl, inr}
use mathlib.Core.List.{List}
use native.Mathlib.Omega.{arith}
use native.Mathlib.Nat.{mul-suc, mul-le-mul}
use lib.ListN.{length, get_or}
use Rattle.sum.proofs.Sum.{le-or}
use Rattle.table.specs.Entry.{pairs_below, pair_count, pair_no}
use Rattle.table.specs.Run.{Wrote}
use Rattle.table.proofs.Entry.{below_up, count_most, pair_row, pair-below}
use Rattle.table.proofs.Pairs.{row_before}
use Rattle.eights.specs.Store.{place_of, scaled, Stored}

pub scaled_at : (weight : ℕ) (store : List ℕ) (from e : ℕ) → weight * get_or store (from + 16 * e) 0 ≡ scaled weight store from e
unfolding scaled
scaled_at weight store from e = refl

pub scaled_fits : (weight n : ℕ) → weight ≤ 1000 → n < 2 ^ 16 → weight * n < 2 ^ 32
scaled_fits weight n h k =
    let m : n ≤ 65535 = omega arith in
    omega (arith, mul-le-mul h m)

-- the row of the strip between the lines a and a + w
pub row_here : (columns pairs w a row long : ℕ) → (columns ≤ 15) × ((pairs ≤ 120) × (pair_count columns * pairs ≤ long)) → 1 ≤ w → a + w ≤ columns
    → row ≡ pairs_below columns a + (w - 1)
    → (row ≡ pair_no columns a (a + w)) × ((row * pairs + pairs ≤ long) × (row ≤ 224))
unfolding pair_no
row_here columns pairs w a row long g h k e =
    let x : row < pair_count columns = omega (arith, pair-below columns a (a + w) (omega arith) k) in
    (omega arith, (omega (arith, row_before row (pair_count columns) pairs x), omega (arith, count_most columns g.0)))

row-above : (columns pairs w b a : ℕ) → 1 ≤ w → b < a → a + w ≤ columns → pair_no columns b (b + w) * pairs + pairs ≤ pair_no columns a (a + w) * pairs
row-above columns pairs w b a h k l =
    row_before (pair_no columns b (b + w)) (pair_no columns a (a + w)) pairs
    (omega (arith, pair_row columns b (b + w) (omega arith) (omega arith), below_up columns (suc b) a k, pair_row columns a (a + w) (omega arith) l))

pub row_fits : (row pairs : ℕ) → row ≤ 224 → pairs ≤ 120 → row * pairs < 2 ^ 64
row_fits row pairs h k = omega (arith, mul-le-mul h k)

pub block_fits : (pairs w : ℕ) → pairs ≤ 120 → w ≤ 15 → pairs * (w - 1) ≤ 1680
block_fits pairs w h k =
    let x : w - 1 ≤ 14 = omega arith in
    mul-le-mul h x

-- the lane of a strip lies within the store
pub block_room : (pairs w a long : ℕ) → 1 ≤ w → a ≤ 16 → 16 * (pairs * w) + 16 ≤ long → 16 * (pairs * (w - 1)) + a + 16 * pairs ≤ long
block_room pairs w a long h k r =
    let x : suc (w - 1) ≡ w = omega arith in
    omega (arith, mul-suc pairs (w - 1), ap (λ n. pairs * n) x)

-- the strips that begin below the line a are stored
pub record Rows (columns pairs w weight : ℕ) (store t : List ℕ) (a : ℕ) (u : List ℕ) : Type 0 where
  pub long : length u ≡ length t
  pub made : (b e : ℕ) → b < a → e < pairs → get_or u (pair_no columns b (b + w) * pairs + e) 0 ≡ weight * get_or store (place_of pairs w e b) 0
  pub kept : (k : ℕ) → ((b : ℕ) → b < a → (k < pair_no columns b (b + w) * pairs) ⊎ (pair_no columns b (b + w) * pairs + pairs ≤ k)) → get_or u k 0 ≡ get_or t k 0

module _ (columns pairs w weight : ℕ) (store t : List ℕ) where
  pub rows_none : Rows columns pairs w weight store t 0 t
  rows_none = record { long = refl; made = λ b e h k. absurd (omega arith); kept = λ k h. refl }

  pub rows_more : (a row : ℕ) (u v : List ℕ) → 1 ≤ w → a + w ≤ columns → row ≡ pair_no columns a (a + w)
      → Wrote (scaled weight store (16 * (pairs * (w - 1)) + a)) (row * pairs) pairs u v
      → Rows columns pairs w weight store t a u
      → Rows columns pairs w weight store t (a + 1) v
  unfolding scaled place_of
  rows_more a row u v h l er o p =
      record {
        long = o.long ∙ p.long;
        made = λ b e x y. elim (le-or a b) [
          | inl s ↦
              (let z : a ≡ b = omega arith in
              let f : 16 * (pairs * (w - 1)) + a + 16 * e ≡ 16 * (pairs * (w - 1) + e) + a = omega arith in
              subst (λ m. get_or v (pair_no columns m (m + w) * pairs + e) 0 ≡ weight * get_or store (place_of pairs w e m) 0) z
              (ap (λ m. get_or v (m * pairs + e) 0) (sym er) ∙ o.made e y ∙ ap (λ m. weight * get_or store m 0) f))
          | inr s ↦
              o.kept (pair_no columns b (b + w) * pairs + e) (inl (omega (arith, row-above columns pairs w b a h s l, ap (λ m. m * pairs) er)))
              ∙ p.made b e s y
        ];
        kept =
            λ k x. o.kept k (subst (λ m. (k < m * pairs) ⊎ (m * pairs + pairs ≤ k)) (sym er) (x a (omega arith)))
            ∙ p.kept k (λ b y. x b (omega arith));
      }

  pub rows_all : (a : ℕ) (u : List ℕ) → a + w ≤ columns + 1 → columns < a + w → Rows columns pairs w weight store t a u → Stored columns pairs w weight store t u
  rows_all a u h k p =
      record {
        long = p.long;
        made = λ b e x y. p.made b e (omega arith) y;
        kept = λ m x. p.kept m (λ b y. x b (omega arith));
      }
