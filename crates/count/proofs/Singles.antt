-- One to three rows, in single numbers. Assumes nothing.
--
--   one-*, two-*, three-*        == the ends of the functions that add up a column
--   cell_of                      == a cell by its place in memory
--   reach_made, reach_more, reach_range, reach_none   == the reach of a row from that of the next column, and that it is 1 to 15
--   column-one, column-two, column-three     == a column of so many rows, by its cells and reaches
--   spared-one, spared-two, spared-three     == the same of what the code adds up
use Prim.Native.Nat.{ℕ, suc, ◌+◌, ◌*◌, ◌-◌, ◌≤◌, ◌<◌, min}
use mathlib.Core.Path.{◌≡◌, refl, sym, ◌∙◌, ap, ap₂}
use mathlib.Core.Bool.{Bool, true, false, cond}
use mathlib.Core.List.{List}
use native.Mathlib.Omega.{arith}
use native.Mathlib.Nat.{mul-le-mul}
use lib.Dec.{eqb}
use lib.ListN.{get_or}
use borrow.Author.Tests.{eq-eqb, ne_eqb}
use Rattle.sum.specs.Sum.{over}
use Rattle.sum.proofs.Sum.{over-one, over_last}
use Rattle.count.specs.Corners.{cell_at, farther, stretch, share, climb, corner, reach_at, spared}
use Rattle.count.specs.Flat.{of_one, of_two, of_three}
use Rattle.count.proofs.Climbing.{stretch-most, reach_some, climb_go}

-- What a column adds

share-at : (m e k : ℕ) → k ≡ m + 2 * e - 1 → m * k ≡ share m e
unfolding share
share-at m e k z = ap (λ x. m * x) z

pub product : (m k most : ℕ) → m ≤ 15 → k ≤ most → m * k ≤ 15 * most
product m k most h q = mul-le-mul {n₁ = m} {m₁ = k} {n₂ = 15} {m₂ = most} h q

pub one-ends : (r : ℕ) → 1 ≤ r → r ≤ 15 → (r * (r - 1) ≡ of_one r) × (r * (r - 1) ≤ 210)
unfolding of_one
one-ends r h k = (share-at r 0 (r - 1) (omega arith), mul-le-mul {n₁ = r} {m₁ = r - 1} {n₂ = 15} {m₂ = 14} k (omega arith))

pub two-apart : (low high r s x : ℕ) → (high ≡ low → ⊥) → x ≡ of_one r + of_one s → x ≡ of_two low high r s
unfolding of_two
two-apart low high r s x n e = rw (ne_eqb high low n) (omega (arith, e))

pub two-alike : (low high r s x m : ℕ) → high ≡ low → x ≡ of_one r + of_one s → m ≡ min r s → x + m * (m + 1) ≡ of_two low high r s
unfolding of_two
two-alike low high r s x m q e z =
    rw (eq-eqb high low q) (omega (arith, e, share-at m 1 (m + 1) (omega arith), ap (λ k. share k 1) z))

pub three-apart : (low middle high r s t x : ℕ) → (middle ≡ low → ⊥) → x ≡ of_one r + of_two middle high s t → x ≡ of_three low middle high r s t
unfolding of_three
three-apart low middle high r s t x n e = rw (ne_eqb middle low n) (omega (arith, e))

pub three-lower : (low middle high r s t x m : ℕ) → middle ≡ low → (high ≡ low → ⊥) → x ≡ of_one r + of_two middle high s t → m ≡ min r s
    → x + m * (m + 1) ≡ of_three low middle high r s t
unfolding of_three
three-lower low middle high r s t x m q n e z =
    rw (eq-eqb middle low q) (rw (ne_eqb high low n) (omega (arith, e, share-at m 1 (m + 1) (omega arith), ap (λ k. share k 1) z)))

pub three-alike : (low middle high r s t x m n : ℕ) → middle ≡ low → high ≡ low → x ≡ of_one r + of_two middle high s t → m ≡ min r s → n ≡ min m t
    → x + m * (m + 1) + n * (n + 3) ≡ of_three low middle high r s t
unfolding of_three
three-alike low middle high r s t x m n q p e z y =
    rw (eq-eqb middle low q)
    (rw (eq-eqb high low p)
    (omega (
      arith,
      e,
      share-at m 1 (m + 1) (omega arith),
      ap (λ k. share k 1) z,
      share-at n 2 (n + 3) (omega arith),
      ap (λ k. share k 2) (y ∙ ap (λ k. min k t) z),
    )))

-- Cells and reaches

pub cell_of : (cells : List ℕ) (c j k : ℕ) → k ≡ 16 * c + j → get_or cells k 0 ≡ cell_at cells c j
unfolding cell_at
cell_of cells c j k e = ap (λ n. get_or cells n 0) e

pub reach_made : (cells : List ℕ) (c j k n t v : ℕ) → k ≡ 16 * c + j → n ≡ k + 16 → v ≡ farther (get_or cells k 0) (get_or cells n 0) t
    → v ≡ farther (cell_at cells c j) (cell_at cells (suc c) j) t
reach_made cells c j k n t v p q f = f ∙ ap₂ (λ x y. farther x y t) (cell_of cells c j k p) (cell_of cells (suc c) j n (omega (arith, p, q)))

pub reach_more : (cells : List ℕ) (columns column j t v : ℕ) → 0 < column → column ≤ columns → t ≡ reach_at cells columns column j
    → v ≡ farther (cell_at cells (column - 1) j) (cell_at cells (suc (column - 1)) j) t → v ≡ reach_at cells columns (column - 1) j
unfolding reach_at stretch
reach_more cells columns column j t v h k e f =
    let one-back : suc (column - 1) ≡ column = omega arith in
    let z : columns - (column - 1) ≡ suc (columns - suc (column - 1)) = omega arith in
    f
    ∙ ap (farther (cell_at cells (column - 1) j) (cell_at cells (suc (column - 1)) j)) (e ∙ ap (λ c. stretch (λ i. cell_at cells i j) c (columns - c)) (sym one-back))
    ∙ sym (ap (stretch (λ i. cell_at cells i j) (column - 1)) z)

pub reach_range : (cells : List ℕ) (columns c j v : ℕ) → c < columns → columns ≤ 15 → v ≡ reach_at cells columns c j → (1 ≤ v) × (v ≤ 15)
unfolding reach_at
reach_range cells columns c j v h k e = (
  omega (arith, e, reach_some cells columns c j h),
  omega (arith, e, stretch-most (λ i. cell_at cells i j) c (columns - c)),
)

pub reach_few : (cells : List ℕ) (columns c j v : ℕ) → columns ≤ 15 → v ≡ reach_at cells columns c j → v ≤ 15
unfolding reach_at
reach_few cells columns c j v k e = omega (arith, e, stretch-most (λ i. cell_at cells i j) c (columns - c))

pub reach_none : (cells : List ℕ) (columns j : ℕ) → 0 ≡ reach_at cells columns columns j
unfolding reach_at
reach_none cells columns j = omega (arith, stretch-most (λ i. cell_at cells i j) columns (columns - columns))

-- A column

module _ (f r : ℕ → ℕ) where
  corner-first : (k b rows : ℕ) → b + suc k ≡ rows → corner f r rows b ≡ of_one (r b) + climb f r (f b) (suc b) 1 (r b) k
  unfolding corner of_one
  corner-first k b rows e =
      let z : rows - b ≡ suc k = omega arith in
      let m : min (r b) (r b) ≡ r b = omega arith in
      ap (climb f r (f b) b 0 (r b)) z
      ∙ climb_go f r (f b) b 0 (r b) k refl
      ∙ ap (λ x. share x 0 + climb f r (f b) (suc b) 1 x k) m

  climb-one : (s j e m : ℕ) → climb f r s j e m 1 ≡ cond (eqb (f j) s) (share (min m (r j)) e) 0
  unfolding climb
  climb-one s j e m = go (eqb (f j) s)
    where
      go : (t : Bool) → cond t (share (min m (r j)) e + 0) 0 ≡ cond t (share (min m (r j)) e) 0
      go true = omega arith
      go false = refl

  climb-two : (s j e m : ℕ)
      → climb f r s j e m 2
      ≡ cond (eqb (f j) s) (share (min m (r j)) e + cond (eqb (f (suc j)) s) (share (min (min m (r j)) (r (suc j))) (suc e)) 0) 0
  unfolding climb
  climb-two s j e m = ap (λ x. cond (eqb (f j) s) (share (min m (r j)) e + x) 0) (climb-one s (suc j) (suc e) (min m (r j)))

  climb-none : (s j e m : ℕ) → climb f r s j e m 0 ≡ 0
  unfolding climb
  climb-none s j e m = refl

  pub column-one : over 0 1 (corner f r 1) ≡ of_one (r 0)
  column-one = omega (arith, over-one 0 (corner f r 1), corner-first 0 0 1 refl, climb-none (f 0) 1 1 (r 0))

  pub column-two : over 0 2 (corner f r 2) ≡ of_two (f 0) (f 1) (r 0) (r 1)
  unfolding of_two
  column-two =
      omega (
        arith,
        over_last 0 1 (corner f r 2) (omega arith),
        over-one 0 (corner f r 2),
        corner-first 1 0 2 refl,
        climb-one (f 0) 1 1 (r 0),
        corner-first 0 1 2 refl,
        climb-none (f 1) 2 1 (r 1),
      )

  pub column-three : over 0 3 (corner f r 3) ≡ of_three (f 0) (f 1) (f 2) (r 0) (r 1) (r 2)
  unfolding of_two of_three
  column-three =
      omega (
        arith,
        over_last 0 2 (corner f r 3) (omega arith),
        over_last 0 1 (corner f r 3) (omega arith),
        over-one 0 (corner f r 3),
        corner-first 2 0 3 refl,
        climb-two (f 0) 1 1 (r 0),
        corner-first 1 1 3 refl,
        climb-one (f 1) 2 1 (r 1),
        corner-first 0 2 3 refl,
        climb-none (f 2) 3 1 (r 2),
      )

-- The columns passed, each with the reaches of its rows

module _ (cells : List ℕ) (columns c : ℕ) where
  pub spared-one : (r n : ℕ) → r ≡ reach_at cells columns c 0 → n ≡ of_one r → n ≡ spared cells columns 1 c
  unfolding spared
  spared-one r n e h = h ∙ ap of_one e ∙ sym (column-one (cell_at cells c) (reach_at cells columns c))

  pub spared-two : (k r s n : ℕ) → k ≡ 16 * c → r ≡ reach_at cells columns c 0 → s ≡ reach_at cells columns c 1
      → n ≡ of_two (get_or cells k 0) (get_or cells (k + 1) 0) r s → n ≡ spared cells columns 2 c
  unfolding spared
  spared-two k r s n z e f h =
      let low : get_or cells k 0 ≡ cell_at cells c 0 = cell_of cells c 0 k (omega (arith, z)) in
      let high : get_or cells (k + 1) 0 ≡ cell_at cells c 1 = cell_of cells c 1 (k + 1) (omega (arith, z)) in
      h ∙ (λ i. of_two (low i) (high i) (e i) (f i)) ∙ sym (column-two (cell_at cells c) (reach_at cells columns c))

  pub spared-three : (k r s t n : ℕ) → k ≡ 16 * c → r ≡ reach_at cells columns c 0 → s ≡ reach_at cells columns c 1 → t ≡ reach_at cells columns c 2
      → n ≡ of_three (get_or cells k 0) (get_or cells (k + 1) 0) (get_or cells (k + 2) 0) r s t → n ≡ spared cells columns 3 c
  unfolding spared
  spared-three k r s t n z e f q h =
      let low : get_or cells k 0 ≡ cell_at cells c 0 = cell_of cells c 0 k (omega (arith, z)) in
      let middle : get_or cells (k + 1) 0 ≡ cell_at cells c 1 = cell_of cells c 1 (k + 1) (omega (arith, z)) in
      let high : get_or cells (k + 2) 0 ≡ cell_at cells c 2 = cell_of cells c 2 (k + 2) (omega (arith, z)) in
      h ∙ (λ i. of_three (low i) (middle i) (high i) (e i) (f i) (q i)) ∙ sym (column-three (cell_at cells c) (reach_at cells columns c))
