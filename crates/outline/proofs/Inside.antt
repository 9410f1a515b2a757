-- Inside at the nanometre is inside of the cell, and false beyond the frame; the grid of a figure is sound. Assumes nothing.
--
--   lines-up, lines-corners, corners-lines   == the lines rise strictly; each is a corner's coordinate; each corner's coordinate is one
--   lines_unique                      == no other list has these three
--   corners-all, walls-lines          == what all lines have, all corners have, and so do the walls
--   grid-cell, grid-right, grid-above == the cells of a grid: within the frame, right of it and above it
--   inside-cell                       == a unit square is inside just if the cell that holds it is
--   inside-left, inside-right, inside-below, inside-above   == beyond the frame nothing is inside
--   one-ring-grid                     == the grid of a figure of one ring, from the corners of its list
--   grid-sound                        == the grid of a figure that passes 2 to 4 is sound
use Prim.Native.Nat.{ℕ, suc, ◌-◌, ◌/◌, ◌≤◌, ◌<◌}
use mathlib.Core.Path.{◌≡◌, sym, ◌∙◌, ap₂}
use mathlib.Core.Bool.{false, ◌&&◌, and-false}
use mathlib.Core.List.{List, [], ◌∷◌, map, Memᴰ as Member}
use mathlib.Core.Logic.{inl, inr}
use native.Mathlib.Omega.{arith}
use lib.Dec.{leb, ltb}
use lib.ListN.{length}
use borrow.Author.Tests.{le-leb, lt-leb, lt-ltb, le-ltb}
use Rattle.sum.specs.Sum.{All}
use Rattle.sum.proofs.Lists.{All-imp, All-unmap, All-map}
use Rattle.figure.specs.declared.Axis.{Axis}
use Rattle.figure.specs.declared.Axis.TheVariants.{X, Y}
use Rattle.figure.specs.Corners.{Corner, corners, coordinate, any, edges, slanted}
use Rattle.figure.specs.Figure.{Figure, figure, rings, corners_of, edges_of}
use Rattle.figure.specs.Inside.{Wall, walls, covers, within, inside_at}
use Rattle.figure.specs.Steps.{Right}
use Rattle.figure.proofs.Turns.{All-both}
use Rattle.figure.proofs.Inside as count
use Rattle.figure.proofs.Sharing.{one-ring-corners, one-ring-edges}
use Rattle.figure.proofs.Inside.{Beside, Set, walls-all}
use Rattle.outline.specs.Lines.{rising, lines, Up, place}
use Rattle.outline.specs.Grid.{Sound}
use Rattle.outline.specs.Inside.{grid_of, grid}
use Rattle.outline.proofs.Lines.{beside, rising-up, rising-all, rising-back, rising-lines, rising_values, rising_unique, lowest, highest, place-all, place_up, place_rises}
use Rattle.outline.proofs.LineCount.{lines-some, lines-most}

-- the lines: they rise, each is a corner's coordinate, and each corner's coordinate is one
pub lines-up : (a : Axis) (cs : List Corner) → Up (lines a cs)
unfolding lines
lines-up a cs = rising-up (map (coordinate a) cs)

pub lines-corners : (a : Axis) (cs : List Corner) → All (λ v. Member v (map (coordinate a) cs)) (lines a cs)
unfolding lines
lines-corners a cs = rising_values (map (coordinate a) cs)

pub corners-lines : (a : Axis) (cs : List Corner) → All (λ c. Member (coordinate a c) (lines a cs)) cs
unfolding lines
corners-lines a cs = All-unmap (λ v. Member v (rising (map (coordinate a) cs))) (coordinate a) cs (rising-lines (map (coordinate a) cs))

pub lines_unique : (a : Axis) (cs : List Corner) (ls : List ℕ) → Up ls
    → All (λ v. Member v (map (coordinate a) cs)) ls
    → All (λ c. Member (coordinate a c) ls) cs
    → ls ≡ lines a cs
unfolding lines
lines_unique a cs ls h p q =
    rising_unique (map (coordinate a) cs) ls h p (All-map (λ v. Member v ls) (coordinate a) cs q)

pub corners-all : (Q : ℕ → Type 0) (a : Axis) (cs : List Corner) → All Q (lines a cs) → All (λ c. Q (coordinate a c)) cs
unfolding lines
corners-all Q a cs h = All-unmap Q (coordinate a) cs (rising-back Q (map (coordinate a) cs) h)

pub walls-lines : (Qx Qy : ℕ → Type 0) (f : Figure) → All Qx (lines X (corners_of f)) → All Qy (lines Y (corners_of f))
    → All (Set Qx Qy) (walls (edges_of f))
unfolding coordinate
walls-lines Qx Qy f h k =
    walls-all Qx Qy f
    (All-both (λ c. Qx c.x) (λ c. Qy c.y) (corners_of f) (corners-all Qx X (corners_of f) h) (corners-all Qy Y (corners_of f) k))

-- between lo and hi there is no line: a test against a line goes the same way at each place
same_low : (lo hi v x : ℕ) → Beside lo hi v → lo ≤ x → x < hi → leb v lo ≡ leb v x
same_low lo hi v x (inl q) h k = le-leb v lo q ∙ sym (le-leb v x (omega arith))
same_low lo hi v x (inr q) h k = lt-leb v lo (omega arith) ∙ sym (lt-leb v x (omega arith))

same-high : (lo hi v y : ℕ) → Beside lo hi v → lo ≤ y → y < hi → leb hi v ≡ leb (suc y) v
same-high lo hi v y (inl q) h k = lt-leb hi v (omega arith) ∙ sym (lt-leb (suc y) v (omega arith))
same-high lo hi v y (inr q) h k = le-leb hi v q ∙ sym (le-leb (suc y) v (omega arith))

same-covers : (x₀ x₁ y₀ y₁ x y : ℕ) (w : Wall) → Set (Beside x₀ x₁) (Beside y₀ y₁) w → x₀ ≤ x → x < x₁ → y₀ ≤ y → y < y₁
    → covers x₀ y₀ y₁ w ≡ covers x y (suc y) w
unfolding covers
same-covers x₀ x₁ y₀ y₁ x y w s a b c d =
    ap₂ ◌&&◌ (same_low x₀ x₁ w.x x s.0 a b) (ap₂ ◌&&◌ (same_low y₀ y₁ w.lo y s.1.0 c d) (same-high y₀ y₁ w.hi y s.1.1 c d))

same-within : (x₀ x₁ y₀ y₁ x y : ℕ) (ws : List Wall) → All (Set (Beside x₀ x₁) (Beside y₀ y₁)) ws → x₀ ≤ x → x < x₁ → y₀ ≤ y → y < y₁
    → within ws x₀ y₀ y₁ ≡ within ws x y (suc y)
unfolding within
same-within x₀ x₁ y₀ y₁ x y ws h a b c d =
    rw (count.count_same (covers x₀ y₀ y₁) (covers x y (suc y)) ws (All-imp (λ w s. same-covers x₀ x₁ y₀ y₁ x y w s a b c d) ws h))

-- the cells of a grid: within the frame, right of it and above it
module _ (f : Figure) (i j : ℕ) where
  pub grid-cell : i < length (lines X (corners_of f)) - 1 → j < length (lines Y (corners_of f)) - 1
      → (grid f).inside i j ≡ within (walls (edges_of f)) (place (lines X (corners_of f)) i) (place (lines Y (corners_of f)) j) (place (lines Y (corners_of f)) (suc j))
  unfolding grid grid_of
  grid-cell h k = rw (lt-ltb i (length (lines X (corners_of f)) - 1) h, lt-ltb j (length (lines Y (corners_of f)) - 1) k)

  pub grid-right : length (lines X (corners_of f)) - 1 ≤ i → (grid f).inside i j ≡ false
  unfolding grid grid_of
  grid-right h = rw (le-ltb i (length (lines X (corners_of f)) - 1) h)

  pub grid-above : length (lines Y (corners_of f)) - 1 ≤ j → (grid f).inside i j ≡ false
  unfolding grid grid_of
  grid-above h = rw (le-ltb j (length (lines Y (corners_of f)) - 1) h) (and-false (ltb i (length (lines X (corners_of f)) - 1)))

pub one-ring-grid : (l : List ℕ)
    → grid (figure l (length l / 2 ∷ [])) ≡ grid_of (lines X (corners l)) (lines Y (corners l)) (walls (edges (corners l)))
unfolding grid
one-ring-grid l = ap₂ (λ cs es. grid_of (lines X cs) (lines Y cs) (walls es)) (one-ring-corners l) (one-ring-edges l)

module _ (f : Figure) (x y : ℕ) where
  -- Inside at the nanometre: as the cell that holds the square
  pub inside-cell : (i j : ℕ) → i < (grid f).columns → j < (grid f).rows
      → (grid f).x i ≤ x → x < (grid f).x (suc i) → (grid f).y j ≤ y → y < (grid f).y (suc j)
      → inside_at f x y ≡ (grid f).inside i j
  unfolding grid grid_of inside_at
  inside-cell i j hi hj a b c d =
      sym
      (grid-cell f i j hi hj
      ∙ same-within (place xs i) (place xs (suc i)) (place ys j) (place ys (suc j)) x y (walls (edges_of f))
      (walls-lines (Beside (place xs i) (place xs (suc i))) (Beside (place ys j) (place ys (suc j))) f
      (beside xs (lines-up X (corners_of f)) i (next i (length xs) hi))
      (beside ys (lines-up Y (corners_of f)) j (next j (length ys) hj)))
      a
      b
      c
      d)
    where
      xs : List ℕ
      xs = lines X (corners_of f)

      ys : List ℕ
      ys = lines Y (corners_of f)

      next : (i n : ℕ) → i < n - 1 → suc i < n
      next i n h = omega arith

-- beyond the frame
module _ (f : Figure) (x y : ℕ) where
  abbrev cs : List Corner
  cs = corners_of f

  pub inside-left : x < (grid f).x 0 → inside_at f x y ≡ false
  unfolding grid grid_of coordinate
  inside-left h =
      count.inside-left f x y
      (All-imp (λ c k. omega arith) cs (corners-all (λ v. place (lines X cs) 0 ≤ v) X cs (lowest (lines X cs) (lines-up X cs))))

  pub inside-below : y < (grid f).y 0 → inside_at f x y ≡ false
  unfolding grid grid_of coordinate
  inside-below h =
      count.inside-below f x y
      (All-imp (λ c k. omega arith) cs (corners-all (λ v. place (lines Y cs) 0 ≤ v) Y cs (lowest (lines Y cs) (lines-up Y cs))))

  pub inside-above : (grid f).y (grid f).rows ≤ y → inside_at f x y ≡ false
  unfolding grid grid_of coordinate
  inside-above h =
      count.inside-above f x y
      (All-imp (λ c k. omega arith) cs
      (corners-all (λ v. v ≤ place (lines Y cs) (length (lines Y cs) - 1)) Y cs (highest (lines Y cs) (lines-up Y cs))))

  pub inside-right : any slanted (rings f) ≡ false → (grid f).x (grid f).columns ≤ x → inside_at f x y ≡ false
  unfolding grid grid_of coordinate
  inside-right s h =
      count.inside-right f x y s
      (All-imp (λ c k. omega arith) cs
      (corners-all (λ v. v ≤ place (lines X cs) (length (lines X cs) - 1)) X cs (highest (lines X cs) (lines-up X cs))))

-- what Sound asks
module _
    (f : Figure)
    (right : Right f)
    (some : 0 < length (corners_of f))
    (most : length (corners_of f) ≤ 32)
    (range : (a : Axis) → All (λ c. coordinate a c ≤ 65535) (corners_of f))
  where
    reach : (a : Axis) (i : ℕ) → place (lines a (corners_of f)) i ≤ 65535
    unfolding lines
    reach a i =
        place-all (λ v. v ≤ 65535) (lines a (corners_of f)) i (omega arith)
        (rising-all (λ v. v ≤ 65535) (map (coordinate a) (corners_of f)) (All-map (λ v. v ≤ 65535) (coordinate a) (corners_of f) (range a)))

    pub grid-sound : Sound (grid f)
    unfolding grid grid_of
    grid-sound =
        record {
          columns-some = omega (arith, lines-some f right X some);
          columns-most = omega (arith, lines-most f right X);
          rows-some = omega (arith, lines-some f right Y some);
          rows-most = omega (arith, lines-most f right Y);
          x-up = place_up (lines X (corners_of f)) (lines-up X (corners_of f));
          y-up = place_up (lines Y (corners_of f)) (lines-up Y (corners_of f));
          x_rises = λ i h. place_rises (lines X (corners_of f)) (lines-up X (corners_of f)) i (omega arith);
          y_rises = λ j h. place_rises (lines Y (corners_of f)) (lines-up Y (corners_of f)) j (omega arith);
          x-most = reach X;
          y-most = reach Y;
          right-none = grid-right f;
          above-none = grid-above f;
        }
