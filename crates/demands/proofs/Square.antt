-- From cells to unit squares: a grid that shows a figure has its sides, its charges and its cover. Assumes nothing.
--
--   Shows g F            == the grid g shows the figure F: the cell that holds a unit square says whether it is inside, and beyond the
--                           frame nothing is
--   sliver_squares, charge_squares   == sliver length and charge of a piece, worked out anew at unit squares
--   square-cell          == a unit square that a piece holds lies in one of its cells
--   cover_squares        == each unit square is in one shot if it is inside, else in none
use Prim.Native.Nat.{ℕ, zero, suc, ◌+◌, ◌-◌, ◌≤◌, ◌<◌}
use mathlib.Core.Path.{◌≡◌, refl, sym, ◌∙◌, ap, ap₂}
use mathlib.Core.Bool.{Bool, true, false, not, ◌&&◌}
use mathlib.Core.List.{map}
use mathlib.Core.Logic.{inl, inr}
use native.Mathlib.Omega.{arith}
use lib.Dec.{leb, ltb}
use borrow.Author.Tests.{leb-true, leb-false, ltb-true, ltb-false}
use Rattle.sum.specs.Sum.{over, only, sum_of}
use Rattle.sum.proofs.Sum as sum
use Rattle.sum.proofs.Lists.{sum_of-same, sum_of-map, All-imp}
use Rattle.rule.specs.declared.Rule.{Rule}
use Rattle.outline.specs.Grid.{Grid, Sound}
use Rattle.piece.specs.Piece.{Piece, rectangle, before, low_side, high_side, width, height, left, right, bottom, top, cell_sum, frame, sliver, charge}
use Rattle.piece.specs.declared.Mode.{Mode}
use Rattle.piece.specs.Cuts.{shots}
use Rattle.piece.proofs.Cells.{Within, sum_same}
use Rattle.piece.proofs.Turned.{turned, turn, sound-turn}
use Rattle.piece.proofs.Cuts.{cover, shots-part}
use Rattle.rule.specs.Charge.{sliver_of, charge_of}
use Rattle.shot.specs.Shot.{holds}
use Rattle.demands.specs.Square.{prior, exposed, left_of, right_of, bottom_of, top_of, shot_sliver, shot_charge}

pub record Shows (g : Grid) (F : ℕ → ℕ → Bool) : Type 0 where
  pub cell : (i j x y : ℕ) → i < g.columns → j < g.rows → g.x i ≤ x → x < g.x (suc i) → g.y j ≤ y → y < g.y (suc j) → F x y ≡ g.inside i j
  pub left-none : (x y : ℕ) → x < g.x 0 → F x y ≡ false
  pub right-none : (x y : ℕ) → g.x g.columns ≤ x → F x y ≡ false
  pub below_none : (x y : ℕ) → y < g.y 0 → F x y ≡ false
  pub above-none : (x y : ℕ) → g.y g.rows ≤ y → F x y ≡ false

-- x for y
shows_turn : (g : Grid) (F : ℕ → ℕ → Bool) → Shows g F → Shows (turned g) (λ x y. F y x)
shows_turn g F s = record {
  cell = λ i j x y hi hj a b c d. s.cell j i y x hj hi c d a b;
  left-none = λ x y. s.below_none y x;
  right-none = λ x y. s.above-none y x;
  below_none = λ x y. s.left-none y x;
  above-none = λ x y. s.right-none y x;
}

-- stretches of 1 nm, line by line: what is the same between neighbouring lines is counted by their distance
stretches : (f : ℕ → ℕ) → ((i : ℕ) → f i ≤ f (suc i)) → (h k : ℕ → Bool) (a c : ℕ) → a ≤ c
    → ((i y : ℕ) → a ≤ i → i < c → f i ≤ y → y < f (suc i) → h y ≡ k i)
    → over (f a) (f c) (λ y. only (h y) 1) ≡ over a c (λ i. only (k i) (f (suc i) - f i))
stretches f up h k a zero q same =
    (let z : a ≡ 0 = omega arith in
    rw z (sum.over_none (f 0) (f 0) (λ y. only (h y) 1) (omega arith) ∙ sym (sum.over_none 0 0 (λ i. only (k i) (f (suc i) - f i)) (omega arith))))
stretches f up h k a (suc c) q same = elim (sum.le-or a c) [
  | inr z ↦
      (let e : a ≡ suc c = omega arith in
      rw e (sum.over_none (f (suc c)) (f (suc c)) (λ y. only (h y) 1) (omega arith) ∙ sym (sum.over_none (suc c) (suc c) (λ i. only (k i) (f (suc i) - f i)) (omega arith))))
  | inl z ↦
      (let u = sum.rise f up a c z in
      sum.over-cut (f a) (f c) (f (suc c)) (λ y. only (h y) 1) u (up c)
      ∙ ap₂ ◌+◌ (stretches f up h k a c z (λ i y p r. same i y p (omega arith)))
      (sum.over-same (f c) (f (suc c)) (λ y. only (h y) 1) (λ y. only (k c) 1) (λ y p r. ap (λ t. only t 1) (same c y z (omega arith) p r))
      ∙ sum.only-over (k c) (f c) (f (suc c)) (λ y. 1)
      ∙ ap (only (k c)) (long (f c) (f (suc c)) (up c)))
      ∙ sym (sum.over_last a c (λ i. only (k i) (f (suc i) - f i)) z))
]
  where
    long : (a c : ℕ) → a ≤ c → over a c (λ k. 1) ≡ c - a
    long a c h = omega (arith, sum.over_ones a c, sum.over_none c a (λ k. 1) h)

module _ (g : Grid) (F : ℕ → ℕ → Bool) (sound : Sound g) (shows : Shows g F) where
  -- the squares right of a line, and left of it, in the row j
  right_of_lem : (i j y : ℕ) → i ≤ g.columns → j < g.rows → g.y j ≤ y → y < g.y (suc j) → F (g.x i) y ≡ g.inside i j
  right_of_lem i j y hi hj c d = elim (sum.le-or g.columns i) [
    | inl q ↦
        (let e : i ≡ g.columns = omega arith in
        rw e (shows.right-none (g.x g.columns) y (omega arith) ∙ sym (sound.right-none g.columns j (omega arith))))
    | inr q ↦ shows.cell i j (g.x i) y q hj (omega arith) (sound.x_rises i q) c d
  ]

  left_of_lem : (i j y : ℕ) → i ≤ g.columns → j < g.rows → g.y j ≤ y → y < g.y (suc j)
      → prior (λ x. F x y) (g.x i) ≡ before (λ u. g.inside u j) i
  left_of_lem zero j y hi hj c d = go (g.x 0) (omega arith)
    where
      go : (n : ℕ) → n ≤ g.x 0 → prior (λ x. F x y) n ≡ false
      go zero h = refl
      go (suc n) h = shows.left-none n y h
  left_of_lem (suc i) j y hi hj c d = go (g.x (suc i)) (sound.x_rises i hi) (omega arith)
    where
      go : (n : ℕ) → g.x i < n → n ≤ g.x (suc i) → prior (λ x. F x y) n ≡ g.inside i j
      go zero h k = absurd (omega arith)
      go (suc n) h k = shows.cell i j n y hi hj (omega arith) k c d

  left_squares : (p : Piece) → p.a ≤ g.columns → p.b ≤ p.d → p.d ≤ g.rows → left_of F (rectangle g p) ≡ left g p
  unfolding left_of left height low_side exposed
  left_squares p ha h hd =
      stretches g.y sound.y-up _ _ p.b p.d h
      (λ j y q r c d. ap₂ (λ u v. u && not v) (right_of_lem p.a j y ha (omega arith) c d) (left_of_lem p.a j y ha (omega arith) c d))

  right_squares : (p : Piece) → p.c ≤ g.columns → p.b ≤ p.d → p.d ≤ g.rows → right_of F (rectangle g p) ≡ right g p
  unfolding right_of right height high_side exposed
  right_squares p hc h hd =
      stretches g.y sound.y-up _ _ p.b p.d h
      (λ j y q r c d. ap₂ (λ u v. u && not v) (left_of_lem p.c j y hc (omega arith) c d) (right_of_lem p.c j y hc (omega arith) c d))

module _ (g : Grid) (F : ℕ → ℕ → Bool) (sound : Sound g) (shows : Shows g F) (r : Rule) where
  pub sliver_squares : (p : Piece) → p.a ≤ p.c → p.c ≤ g.columns → p.b ≤ p.d → p.d ≤ g.rows
      → shot_sliver F r (rectangle g p) ≡ sliver g r p
  unfolding shot_sliver sliver width height
  sliver_squares p ac hc bd hd =
      ap₂ (sliver_of r (g.x p.c - g.x p.a) (g.y p.d - g.y p.b))
      (ap₂ ◌+◌ (left_squares g F sound shows p (omega arith) bd hd) (right_squares g F sound shows p hc bd hd))
      (ap₂ ◌+◌ low high)
    where
      low : bottom_of F (rectangle g p) ≡ bottom g p
      low =
          unfold bottom_of left_of bottom left width height in
          left_squares (turned g) (λ x y. F y x) (sound-turn g sound) (shows_turn g F shows) (turn p) (omega arith) ac hc

      high : top_of F (rectangle g p) ≡ top g p
      high =
          unfold top_of right_of top right width height in
          right_squares (turned g) (λ x y. F y x) (sound-turn g sound) (shows_turn g F shows) (turn p) hd ac hc

  pub charge_squares : (p : Piece) → p.a ≤ p.c → p.c ≤ g.columns → p.b ≤ p.d → p.d ≤ g.rows
      → shot_charge F r (rectangle g p) ≡ charge g r p
  unfolding shot_charge charge
  charge_squares p ac hc bd hd = ap (charge_of r) (sliver_squares p ac hc bd hd)

-- Cover

-- what counts is true
pub held_one : (b : Bool) → 0 < only b 1 → b ≡ true
held_one true h = refl
held_one false h = absurd (omega arith)

module _ (g : Grid) (F : ℕ → ℕ → Bool) (sound : Sound g) (shows : Shows g F) (x y : ℕ) where
  -- n for the cell that holds the unit square at (x, y)
  spot : ℕ → ℕ → ℕ → ℕ
  spot n i j = only (leb (g.x i) x && ltb x (g.x (suc i))) (only (leb (g.y j) y && ltb y (g.y (suc j))) n)

  spot_sum : (n : ℕ) (p : Piece) → p.a ≤ p.c → p.b ≤ p.d → cell_sum (spot n) p ≡ only (holds x y (rectangle g p)) n
  unfolding cell_sum spot holds
  spot_sum n p h k =
      sum.over-same p.a p.c _ (λ i. only (leb (g.x i) x && ltb x (g.x (suc i))) (only t n))
      (λ i q r.
      sum.only-over (leb (g.x i) x && ltb x (g.x (suc i))) p.b p.d _
      ∙ ap (only (leb (g.x i) x && ltb x (g.x (suc i)))) (sum.over-spans g.y sound.y-up p.b p.d y n k))
      ∙ sum.over-spans g.x sound.x-up p.a p.c x (only t n) h
      ∙ sum.only-only (leb (g.x p.a) x && ltb x (g.x p.c)) t n
    where
      t : Bool
      t = leb (g.y p.b) y && ltb y (g.y p.d)

  none : (t : Bool) → only t 0 ≡ 0
  none true = refl
  none false = refl

  -- the cell that holds the square is inside just if the square is
  spot-inside : (p : Piece) → p.c ≤ g.columns → p.d ≤ g.rows
      → cell_sum (λ i j. only (g.inside i j) (spot 1 i j)) p ≡ cell_sum (spot (only (F x y) 1)) p
  unfolding spot
  spot-inside p hc hd =
      sum_same _ (spot (only (F x y) 1)) p
      (λ i j w. at i j w (leb (g.x i) x) refl (ltb x (g.x (suc i))) refl (leb (g.y j) y) refl (ltb y (g.y (suc j))) refl)
    where
      at : (i j : ℕ) → Within p i j → (s : Bool) → leb (g.x i) x ≡ s → (u : Bool) → ltb x (g.x (suc i)) ≡ u
          → (v : Bool) → leb (g.y j) y ≡ v → (m : Bool) → ltb y (g.y (suc j)) ≡ m
          → only (g.inside i j) (only (s && u) (only (v && m) 1)) ≡ only (s && u) (only (v && m) (only (F x y) 1))
      at i j w true e true e₁ true e₂ true e₃ =
          ap (λ z. only z 1)
          (sym (shows.cell i j x y (omega (arith, w.c)) (omega (arith, w.d)) (leb-true _ _ e) (ltb-true _ _ e₁) (leb-true _ _ e₂) (ltb-true _ _ e₃)))
      at i j w true e true e₁ true e₂ false e₃ = none (g.inside i j)
      at i j w true e true e₁ false e₂ m e₃ = none (g.inside i j)
      at i j w true e false e₁ v e₂ m e₃ = none (g.inside i j)
      at i j w false e u e₁ v e₂ m e₃ = none (g.inside i j)

  -- what is inside lies in the frame
  frame-holds : only (holds x y (rectangle g (frame g))) (only (F x y) 1) ≡ only (F x y) 1
  unfolding holds frame
  frame-holds =
      go (leb (g.x 0) x) refl (ltb x (g.x g.columns)) refl (leb (g.y 0) y) refl (ltb y (g.y g.rows)) refl
    where
      not_there : F x y ≡ false → 0 ≡ only (F x y) 1
      not_there e = sym (ap (λ b. only b 1) e)

      go : (s : Bool) → leb (g.x 0) x ≡ s → (u : Bool) → ltb x (g.x g.columns) ≡ u
          → (v : Bool) → leb (g.y 0) y ≡ v → (m : Bool) → ltb y (g.y g.rows) ≡ m
          → only ((s && u) && (v && m)) (only (F x y) 1) ≡ only (F x y) 1
      go true e true e₁ true e₂ true e₃ = refl
      go true e true e₁ true e₂ false e₃ = not_there (shows.above-none x y (ltb-false _ _ e₃))
      go true e true e₁ false e₂ m e₃ = not_there (shows.below_none x y (leb-false _ _ e₂))
      go true e false e₁ v e₂ m e₃ = not_there (shows.right-none x y (ltb-false _ _ e₁))
      go false e u e₁ v e₂ m e₃ = not_there (shows.left-none x y (leb-false _ _ e))

  pub cover_squares : (mode : Mode) (r : Rule) → sum_of (λ s. only (holds x y s) 1) (map (rectangle g) (shots mode g r (frame g))) ≡ only (F x y) 1
  unfolding frame
  cover_squares mode r =
      sum_of-map (λ s. only (holds x y s) 1) (rectangle g) (shots mode g r (frame g))
      ∙ sum_of-same _ (cell_sum (spot 1)) (shots mode g r (frame g))
      (All-imp
      (λ s w. let ac = w.ac in let bd = w.bd in sym (spot_sum 1 s (omega arith) (omega arith)))
      (shots mode g r (frame g))
      (shots-part mode g r (frame g)))
      ∙ cover mode g r (spot 1) (frame g)
      ∙ spot-inside (frame g) (omega arith) (omega arith)
      ∙ spot_sum (only (F x y) 1) (frame g) (omega arith) (omega arith)
      ∙ frame-holds
