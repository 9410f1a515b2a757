-- The grid of a figure and the figure at the nanometre: what the laws of lines and cells say of unit squares. Assumes nothing.
--
--   words_corners        == the coordinates of corners are numbers of the list
--   figure-sound         == the grid of a figure of 16-bit numbers that passes 2, 3 and 4 is sound
--   figure_shows         == it shows the figure: the odd count at a unit square is that of the cell that holds it
--   figure_lined         == its lines are the coordinates of the corners
--   figure-frame         == its frame is the corners' frame
use Prim.Native.Nat.{ℕ, zero, suc, ◌-◌, ◌≤◌, ◌<◌, max}
use mathlib.Core.Path.{◌≡◌, sym, subst}
use mathlib.Core.Bool.{false}
use mathlib.Core.List.Memᴰ
use mathlib.Core.List.{List, [], ◌∷◌, map, Memᴰ as Member}
use native.Mathlib.Omega.{arith}
use lib.ListN.{length}
use Rattle.sum.specs.Sum.{All}
use Rattle.sum.proofs.Lists.{All-imp, All-at}
use Rattle.figure.specs.declared.Axis.{Axis}
use Rattle.figure.specs.declared.Axis.TheVariants.{X, Y}
use Rattle.figure.specs.Corners.{Corner, corners, coordinate, any, slanted}
use Rattle.figure.specs.Figure.{Figure, rings, corners_of}
use Rattle.figure.specs.Inside.{inside_at}
use Rattle.figure.specs.Steps.{Right}
use Rattle.figure.proofs.Turns.{All-both}
use Rattle.figure.proofs.Inside.{min-max}
use Rattle.figure.proofs.Sharing.{corners-whole}
use Rattle.outline.specs.Lines.{rising, lines, place}
use Rattle.outline.specs.Grid.{Sound}
use Rattle.outline.specs.Inside.{grid_of, grid}
use Rattle.outline.proofs.Lines.{lowest, highest, rising-back, rising-lines, rising_values}
use Rattle.outline.proofs.Inside.{lines-up, inside-cell, inside-left, inside-right, inside-below, inside-above, grid-sound}
use Rattle.outline.proofs.Marking.{right-length}
use Rattle.piece.specs.Piece.{frame, rectangle}
use Rattle.demands.specs.Ways.{On, least_of, most_of, frame_of}
use Rattle.demands.specs.Demands.{Words}
use Rattle.demands.proofs.Square.{Shows}
use Rattle.demands.proofs.Ways.{Lined}

Kept : ℕ → ℕ → ℕ → Type 0
Kept lo hi v = (lo ≤ v) × (v ≤ hi)

-- each coordinate lies between the first line and the last
kept : (a : Axis) (cs : List Corner) → All (Kept (place (lines a cs) 0) (place (lines a cs) (length (lines a cs) - 1))) (map (coordinate a) cs)
unfolding lines Kept
kept a cs =
    rising-back _ (map (coordinate a) cs)
    (All-both _ _ (rising (map (coordinate a) cs)) (lowest (rising (map (coordinate a) cs)) (lines-up a cs)) (highest (rising (map (coordinate a) cs)) (lines-up a cs)))

-- Lines are coordinates of corners

member_place : (l : List ℕ) (v : ℕ) → Member v l → (i : ℕ) × (i ≤ length l - 1) × (place l i ≡ v)
unfolding place
member_place [] v x' = elim x' [ ]
member_place (u ∷ []) v (Member.head e) = (0, omega arith, sym e)
member_place (u ∷ []) v (Member.tail m) = absurd (Memᴰ.not-nil m)
member_place (u ∷ w ∷ l) v (Member.head e) = (0, omega arith, sym e)
member_place (u ∷ w ∷ l) v (Member.tail m) = let i = member_place (w ∷ l) v m in (suc i.0, omega (arith, i.1), i.2)

place_of_all : (Q : ℕ → Type 0) (l : List ℕ) (i : ℕ) → i < length l → All Q l → Q (place l i)
unfolding place
place_of_all Q (u ∷ []) i k h = h.0
place_of_all Q (u ∷ v ∷ l) zero k h = h.0
place_of_all Q (u ∷ v ∷ l) (suc i) k h = place_of_all Q (v ∷ l) i (omega arith) h.1
place_of_all Q [] i k h = absurd (omega arith)

-- the least and the greatest of a list are members of it, and bounds
least_bound : (l : List ℕ) → All (λ v. least_of l ≤ v) l
unfolding least_of
least_bound [] = tt
least_bound (v ∷ []) = (omega arith, tt)
least_bound (v ∷ u ∷ l) = (omega arith, All-imp (λ w h. omega arith) (u ∷ l) (least_bound (u ∷ l)))

most_bound : (l : List ℕ) → All (λ v. v ≤ most_of l) l
unfolding most_of
most_bound [] = tt
most_bound (v ∷ l) = (omega arith, All-imp (λ w h. omega arith) l (most_bound l))

least-one : (Q : ℕ → Type 0) (l : List ℕ) → 0 < length l → All Q l → Q (least_of l)
unfolding least_of
least-one Q [] k h = absurd (omega arith)
least-one Q (v ∷ []) k h = h.0
least-one Q (v ∷ u ∷ l) k h = (min-max Q v (least_of (u ∷ l)) h.0 (least-one Q (u ∷ l) (omega arith) h.1)).0

most-one : (Q : ℕ → Type 0) (l : List ℕ) → 0 < length l → All Q l → Q (most_of l)
unfolding most_of
most-one Q [] k h = absurd (omega arith)
most-one Q (v ∷ []) k h = subst Q (same v) h.0
  where
    same : (v : ℕ) → v ≡ max v 0
    same v = omega arith
most-one Q (v ∷ u ∷ l) k h = (min-max Q v (most_of (u ∷ l)) h.0 (most-one Q (u ∷ l) (omega arith) h.1)).1

module _ (a : Axis) (cs : List Corner) (some : 1 ≤ length (lines a cs) - 1) where
  line_on : (i : ℕ) → i ≤ length (lines a cs) - 1 → On a cs (place (lines a cs) i)
  unfolding lines
  line_on i h = place_of_all (λ v. On a cs v) (lines a cs) i (omega arith) (rising_values (map (coordinate a) cs))

  on_line : (v : ℕ) → On a cs v → (i : ℕ) × (i ≤ length (lines a cs) - 1) × (place (lines a cs) i ≡ v)
  unfolding lines
  on_line v m = member_place (lines a cs) v (All-at (λ v. Member v (rising (map (coordinate a) cs))) m (rising-lines (map (coordinate a) cs)))

  corners-some : 0 < length (map (coordinate a) cs)
  corners-some = go (map (coordinate a) cs) (line_on 0 (omega arith))
    where
      go : (l : List ℕ) → Member (place (lines a cs) 0) l → 0 < length l
      go [] m = absurd (Memᴰ.not-nil m)
      go (v ∷ l) m = omega arith

  first-line : place (lines a cs) 0 ≡ least_of (map (coordinate a) cs)
  unfolding Kept
  first-line =
      omega (
        arith,
        (least-one (Kept (place (lines a cs) 0) (place (lines a cs) (length (lines a cs) - 1))) (map (coordinate a) cs) corners-some (kept a cs)).0,
        All-at (λ v. least_of (map (coordinate a) cs) ≤ v) (line_on 0 (omega arith)) (least_bound (map (coordinate a) cs)),
      )

  last_line : place (lines a cs) (length (lines a cs) - 1) ≡ most_of (map (coordinate a) cs)
  unfolding Kept
  last_line =
      omega (
        arith,
        (most-one (Kept (place (lines a cs) 0) (place (lines a cs) (length (lines a cs) - 1))) (map (coordinate a) cs) corners-some (kept a cs)).1,
        All-at (λ v. v ≤ most_of (map (coordinate a) cs)) (line_on (length (lines a cs) - 1) (omega arith)) (most_bound (map (coordinate a) cs)),
      )

module _ (f : Figure) (columns : 1 ≤ (grid f).columns) (rows : 1 ≤ (grid f).rows) where
  abbrev cs : List Corner
  cs = corners_of f

  pub figure_lined : Lined (grid f) (On X cs) (On Y cs)
  unfolding grid grid_of
  figure_lined = record { x-line = on_line X cs columns; y-line = on_line Y cs rows; x_on = line_on X cs columns; y_on = line_on Y cs rows }

  pub figure-frame : rectangle (grid f) (frame (grid f)) ≡ frame_of cs
  unfolding grid grid_of frame frame_of
  figure-frame = let a = first-line X cs columns in let b = last_line X cs columns in let c = first-line Y cs rows in let d = last_line Y cs rows in cc

-- The laws of lines and cells, in one place

pub figure_shows : (f : Figure) → any slanted (rings f) ≡ false → Shows (grid f) (inside_at f)
figure_shows f h = record {
  cell = λ i j x y. inside-cell f x y i j;
  left-none = inside-left f;
  right-none = λ x y. inside-right f x y h;
  below_none = inside-below f;
  above-none = inside-above f;
}

-- a list's numbers, two by two
words_corners : (Q : ℕ → Type 0) (l : List ℕ) → All Q l → (a : Axis) → All (λ c. Q (coordinate a c)) (corners l)
unfolding corners coordinate
words_corners Q [] h a = tt
words_corners Q (u ∷ []) h a = tt
words_corners Q (u ∷ v ∷ l) h X = (h.0, words_corners Q l h.1.1 X)
words_corners Q (u ∷ v ∷ l) h Y = (h.1.0, words_corners Q l h.1.1 Y)

pub figure-sound : (f : Figure) → Words f → Right f → Sound (grid f)
figure-sound f words right =
    let n = right-length f right in
    grid-sound f right (omega arith) (omega arith)
    (λ a.
    subst (All (λ c. coordinate a c ≤ 65535)) (sym (corners-whole f right.figure-good))
    (words_corners (λ v. v ≤ 65535) f.numbers (All-imp (λ v h. omega arith) f.numbers words) a))
