-- The sides of cells and strips, as the cells in memory have them. Assumes nothing.
--
--   bare-only                           == a stretch between two cells of the grid
--   stretch, alone                      == the same by the cells in memory; with the cell across beyond the frame
--   width-at, height-at                 == the width of a column and the height of a row, by the places in memory
--   bottom-at, top-at, left_at, right-at == the exposed sides of a cell, by the cells in memory
--   count-, bottom-, top-column         == the inside cells, the bottom and the top of a strip that grows by a column
--   span-most                           == stretches of a run of lines are no longer than the highest place
--   before-first, before_later          == where the column before a line begins
use Prim.Native.Nat.{ℕ, zero, suc, ◌+◌, ◌*◌, ◌-◌, ◌≤◌, ◌<◌}
use mathlib.Core.Path.{◌≡◌, refl, sym, ◌∙◌, ap, ap₂}
use mathlib.Core.Bool.{Bool, true, false, not, ◌&&◌}
use mathlib.Core.List.{List}
use native.Mathlib.Omega.{arith}
use lib.ListN.{get_or}
use Rattle.sum.specs.Sum.{only, over}
use Rattle.sum.proofs.Sum.{over_last, over-one, over-le, over-part, over-steps, only-most}
use Rattle.outline.specs.Grid.{Grid, Sound, Drawn}
use Rattle.piece.specs.Piece.{box, low_side, high_side, cell_sum, inside_cells, width, height, bottom, top}
use Rattle.table.specs.Run.{bare}
use Rattle.table.specs.Side.{below_at, before_at}

pub bare-only : (p q : Bool) (len : ℕ) → bare (only p 1) (only q 1) len ≡ only (p && not q) len
unfolding bare
bare-only true true len = refl
bare-only true false len = refl
bare-only false true len = refl
bare-only false false len = refl

module _ (g : Grid) (xs ys cs : List ℕ) (sound : Sound g) (drawn : Drawn g xs ys cs) where
  -- a stretch between two cells of the grid, the first of them in the frame
  pub stretch : (i j k l m n len : ℕ) → i < 16 → j < 16 → k < 16 → l < 16 → m ≡ 16 * i + j → n ≡ 16 * k + l
      → bare (get_or cs m 0) (get_or cs n 0) len ≡ only (g.inside i j && not (g.inside k l)) len
  stretch i j k l m n len hi hj hk hl em en =
      ap₂ (λ u v. bare u v len) (ap (λ u. get_or cs u 0) em ∙ drawn.cell-at i j hi hj) (ap (λ u. get_or cs u 0) en ∙ drawn.cell-at k l hk hl)
      ∙ bare-only (g.inside i j) (g.inside k l) len

  -- with the cell across beyond the frame
  pub alone : (i j k l m n len : ℕ) → i < 16 → j < 16 → k < 16 → l < 16 → m ≡ 16 * i + j → n ≡ 16 * k + l → g.inside k l ≡ false
      → bare (get_or cs m 0) (get_or cs n 0) len ≡ only (g.inside i j && not false) len
  alone i j k l m n len hi hj hk hl em en e =
      stretch i j k l m n len hi hj hk hl em en ∙ ap (λ b. only (g.inside i j && not b) len) e

  pub width-at : (c : ℕ) → c < g.columns → get_or xs (c + 1) 0 - get_or xs c 0 ≡ width g c (suc c)
  unfolding width
  width-at c h =
      let e : c + 1 ≡ suc c = omega arith in
      ap₂ ◌-◌ (ap (λ n. get_or xs n 0) e ∙ drawn.x-at (suc c) h) (drawn.x-at c (omega arith))

  pub height-at : (j : ℕ) → j < g.rows → get_or ys (j + 1) 0 - get_or ys j 0 ≡ height g j (suc j)
  unfolding height
  height-at j h =
      let e : j + 1 ≡ suc j = omega arith in
      ap₂ ◌-◌ (ap (λ n. get_or ys n 0) e ∙ drawn.y-at (suc j) h) (drawn.y-at j (omega arith))

  -- the bottom, the top, the left and the right side of a cell, by the cells in memory
  pub bottom-at : (c : ℕ) → c < g.columns → (b len : ℕ) → b < g.rows
      → bare (get_or cs (16 * c + b) 0) (below_at cs (16 * c) b) len ≡ only (low_side (g.inside c) b) len
  unfolding low_side below_at
  bottom-at c k zero len q =
      ap (λ n. bare n 0 len) (drawn.cell-at c 0 (omega (arith, k, sound.columns-most)) (omega arith))
      ∙ bare-only (g.inside c 0) false len
  bottom-at c k (suc b) len q =
      let i : c < 16 = omega (arith, k, sound.columns-most) in
      stretch c (suc b) c b _ _ len i (omega (arith, sound.rows-most)) i (omega (arith, sound.rows-most)) refl refl

  pub top-at : (c : ℕ) → c < g.columns → (d len : ℕ) → d < g.rows
      → bare (get_or cs (16 * c + d) 0) (get_or cs (16 * c + d + 1) 0) len ≡ only (high_side (g.inside c) (suc d)) len
  unfolding high_side
  top-at c k d len q =
      let i : c < 16 = omega (arith, k, sound.columns-most) in
      stretch c d c (suc d) (16 * c + d) (16 * c + d + 1) len i (omega (arith, sound.rows-most)) i (omega (arith, sound.rows-most)) refl (omega arith)

  pub left_at : (a : ℕ) → a < 15 → (j len : ℕ) → j < g.rows → bare (get_or cs (16 * a + j) 0) (get_or cs (before_at a + j) 0) len ≡ only (low_side (λ i. g.inside i j) a) len
  unfolding before_at low_side
  left_at zero q j len l =
      alone 0 j 15 j _ _ len (omega arith) (omega (arith, sound.rows-most)) (omega arith) (omega (arith, sound.rows-most)) refl (omega arith)
      (sound.right-none 15 j sound.columns-most)
  left_at (suc a) q j len l =
      stretch (suc a) j a j _ _ len (omega arith) (omega (arith, sound.rows-most)) (omega arith) (omega (arith, sound.rows-most)) refl refl

  pub right-at : (c : ℕ) → 0 < c → c < 16 → (j len : ℕ) → j < g.rows
      → bare (get_or cs (16 * (c - 1) + j) 0) (get_or cs (16 * c + j) 0) len ≡ only (high_side (λ i. g.inside i j) c) len
  unfolding high_side
  right-at zero z q j len l = absurd (omega arith)
  right-at (suc c) z q j len l =
      stretch c j (suc c) j _ _ len (omega arith) (omega (arith, sound.rows-most)) (omega arith) (omega (arith, sound.rows-most)) (omega arith) refl

  -- one column more
  module _ (a c : ℕ) (h : a ≤ c) (k : c < g.columns) where
    pub count-column : (j : ℕ) → inside_cells g (box a (suc c) j (suc j)) ≡ inside_cells g (box a c j (suc j)) + only (g.inside c j) 1
    unfolding inside_cells cell_sum
    count-column j =
        over_last a c (λ i. over j (suc j) (λ l. only (g.inside i l) 1)) h
        ∙ ap (λ n. over a c (λ i. over j (suc j) (λ l. only (g.inside i l) 1)) + n) (over-one j (λ l. only (g.inside c l) 1))

    pub bottom-column : (b d : ℕ) → bottom g (box a (suc c) b d) ≡ bottom g (box a c b d) + only (low_side (g.inside c) b) (width g c (suc c))
    unfolding bottom
    bottom-column b d = over_last a c (λ i. only (low_side (g.inside i) b) (width g i (suc i))) h

    pub top-column : (b d : ℕ) → top g (box a (suc c) b d) ≡ top g (box a c b d) + only (high_side (g.inside c) d) (width g c (suc c))
    unfolding top
    top-column b d = over_last a c (λ i. only (high_side (g.inside i) d) (width g i (suc i))) h

-- stretches of a run of lines are no longer than the highest place
pub span-most : (f : ℕ → ℕ) → ((i : ℕ) → f i ≤ f (suc i)) → ((i : ℕ) → f i ≤ 65535) → (t : ℕ → Bool) (b d : ℕ) → b ≤ d
    → over b d (λ j. only (t j) (f (suc j) - f j)) ≤ 65535
span-most f up most t b d h =
    omega (
      arith,
      over-le b d (λ j. only (t j) (f (suc j) - f j)) (λ j. f (suc j) - f j) (λ j p q. only-most (t j) (f (suc j) - f j)),
      over-part b d 0 d (λ j. f (suc j) - f j) (omega arith) h (omega arith),
      over-steps d f up,
      most d,
    )

-- the column before a line
pub before-first : (a : ℕ) → a ≡ 0 → (240 ≡ before_at a) × (240 ≤ 240)
unfolding before_at
before-first a e = (sym (ap before_at e), omega arith)

pub before_later : (a : ℕ) → a ≤ 14 → (a ≡ 0 → ⊥) → (16 * (a - 1) ≡ before_at a) × (16 * (a - 1) ≤ 240)
unfolding before_at
before_later zero h n = absurd (n refl)
before_later (suc a) h n = (omega arith, omega arith)
