-- A grid in memory: it is read back whole, and a drawing that keeps its promise holds the outline's grid. Assumes nothing.
--
--   laid-drawn              == a sound grid lies in memory as `Drawn` says
--   laid-stored             == what lies there, read back, is the grid
--   grid_repeats            == past the last line a place is the last line's
--   drawing-drawn, drawing-stored, drawing-columns, drawing-rows   == the same of the drawing of an accepted outline
--   drawing-lengths         == the lists of every drawing that keeps its promise have their lengths
use Prim.Native.Nat.{ℕ, ◌+◌, ◌*◌, ◌/◌, ◌%◌, ◌≤◌, ◌<◌, min}
use mathlib.Core.Path.{◌≡◌, refl, sym, ◌∙◌, ap, ap₂, subst}
use mathlib.Core.Bool.{Bool, true, false, cond, ◌&&◌, and-false}
use mathlib.Core.Logic.{inl, inr}
use native.Mathlib.Omega.{arith}
use lib.Dec.{leb, ltb, eqb}
use lib.ListN.{length, get_or}
use borrow.Author.Tests.{le-leb, lt-ltb, le-ltb, eq-eqb}
use Rattle.sum.specs.Sum.{only}
use Rattle.sum.proofs.Sum.{le-or}
use Rattle.figure.specs.declared.Axis.TheVariants.{X, Y}
use Rattle.figure.specs.Figure.{Figure, corners_of}
use Rattle.outline.specs.Lines.{lines}
use Rattle.outline.specs.Grid.{Grid, Sound, Drawn, Memory, stored}
use Rattle.outline.specs.Inside.{grid, grid_of}
use Rattle.outline.specs.Promise.{refusal, list_of, laid, blank, Sheet, Promise}
use Rattle.outline.proofs.Lines.{place-past}
use Rattle.outline.proofs.Promise.{length-list_of, list_of-at}

-- a place of a list of lines in memory
place-laid : (f : ℕ → ℕ) (n i : ℕ) → n ≤ 15 → i ≤ n → get_or (list_of 16 (λ k. only (leb k n) (f k))) i 0 ≡ f i
place-laid f n i h k = list_of-at 16 (λ k. only (leb k n) (f k)) i (omega arith) ∙ ap (λ b. only b (f i)) (le-leb i n k)

module _ (g : Grid) (sound : Sound g) where
  cell-laid : (i j : ℕ) → i < 16 → j < 16 → get_or (laid g).cells (16 * i + j) 0 ≡ only (g.inside i j) 1
  unfolding laid
  cell-laid i j p q =
      let u : (16 * i + j) / 16 ≡ i = omega arith in
      let v : (16 * i + j) % 16 ≡ j = omega arith in
      list_of-at 256 _ (16 * i + j) (omega arith) ∙ ap₂ (λ m n. only (g.inside m n) 1) u v

  pub laid-drawn : Drawn g (laid g).xs (laid g).ys (laid g).cells
  unfolding laid
  laid-drawn =
      record {
        xs-length = length-list_of 16 _;
        ys-length = length-list_of 16 _;
        cells-length = length-list_of 256 _;
        x-at = λ i h. place-laid g.x g.columns i sound.columns-most h;
        y-at = λ j h. place-laid g.y g.rows j sound.rows-most h;
        cell-at = cell-laid;
      }

  -- places that repeat the last line's
  abbrev Repeats : (ℕ → ℕ) → ℕ → Type 0
  Repeats f n = (i : ℕ) → n ≤ i → f i ≡ f n

  place-back : (f : ℕ → ℕ) (n : ℕ) → n ≤ 15 → Repeats f n → (i : ℕ) → get_or (list_of 16 (λ k. only (leb k n) (f k))) (min i n) 0 ≡ f i
  place-back f n h r i = elim (le-or n i) [
    | inl q ↦ (let z : min i n ≡ n = omega arith in rw z (place-laid f n n h (omega arith) ∙ sym (r i q)))
    | inr q ↦ (let z : min i n ≡ i = omega arith in rw z (place-laid f n i h (omega arith)))
  ]

  cell-back : (i j : ℕ) → (ltb i g.columns && (ltb j g.rows && eqb (get_or (laid g).cells (16 * i + j) 0) 1)) ≡ g.inside i j
  cell-back i j = elim (le-or g.columns i) [
    | inl p ↦ rw (le-ltb i g.columns p) (sym (sound.right-none i j p))
    | inr p ↦
        elim (le-or g.rows j) [
          | inl q ↦ rw (le-ltb j g.rows q) (and-false (ltb i g.columns) ∙ sym (sound.above-none i j q))
          | inr q ↦
              rw (lt-ltb i g.columns p, lt-ltb j g.rows q)
              (ap (λ n. eqb n 1) (cell-laid i j (omega (arith, sound.columns-most)) (omega (arith, sound.rows-most))) ∙ bit (g.inside i j))
        ]
  ]
    where
      bit : (b : Bool) → eqb (only b 1) 1 ≡ b
      bit true = refl
      bit false = refl

  pub laid-stored : Repeats g.x g.columns → Repeats g.y g.rows
      → stored (laid g).columns (laid g).rows (laid g).xs (laid g).ys (laid g).cells ≡ g
  unfolding stored laid
  laid-stored rx ry i =
      record {
        columns = g.columns;
        rows = g.rows;
        x = λ n. place-back g.x g.columns sound.columns-most rx n i;
        y = λ n. place-back g.y g.rows sound.rows-most ry n i;
        inside = λ m n. cell-back m n i;
      }

pub grid_repeats : (f : Figure) → ((i : ℕ) → (grid f).columns ≤ i → (grid f).x i ≡ (grid f).x (grid f).columns)
    × ((j : ℕ) → (grid f).rows ≤ j → (grid f).y j ≡ (grid f).y (grid f).rows)
unfolding grid grid_of
grid_repeats f = ((λ i h. place-past (lines X (corners_of f)) i (omega arith)), λ j h. place-past (lines Y (corners_of f)) j (omega arith))

-- the sheet of an accepted outline
module _ (f : Figure) (r : Sheet) (promise : Promise f r) (accepted : refusal f ≡ 0) where
  drawing-laid : r.grid ≡ laid (grid f)
  drawing-laid = promise.drawn ∙ ap (λ b. cond b (laid (grid f)) blank) (eq-eqb (refusal f) 0 accepted)

  pub drawing-columns : r.grid.columns ≡ (grid f).columns
  unfolding laid
  drawing-columns = ap (λ g. g.columns) drawing-laid

  pub drawing-rows : r.grid.rows ≡ (grid f).rows
  unfolding laid
  drawing-rows = ap (λ g. g.rows) drawing-laid

  pub drawing-drawn : Drawn (grid f) r.grid.xs r.grid.ys r.grid.cells
  drawing-drawn =
      subst (λ g. Drawn (grid f) g.xs g.ys g.cells) (sym drawing-laid)
      (laid-drawn (grid f) (promise.sound accepted))

  pub drawing-stored : stored r.grid.columns r.grid.rows r.grid.xs r.grid.ys r.grid.cells ≡ grid f
  drawing-stored =
      ap (λ g. stored g.columns g.rows g.xs g.ys g.cells) drawing-laid
      ∙ laid-stored (grid f) (promise.sound accepted) (grid_repeats f).0 (grid_repeats f).1

-- the lists of every drawing
pub record Lengths (s : Sheet) : Type 0 where
  pub xs-length : length s.grid.xs ≡ 16
  pub ys-length : length s.grid.ys ≡ 16
  pub cells-length : length s.grid.cells ≡ 256

pub drawing-lengths : (f : Figure) (s : Sheet) → Promise f s → Lengths s
unfolding laid blank
drawing-lengths f s p =
    record {
      xs-length = ap (λ (m : Memory). length m.xs) p.drawn ∙ (along (eqb (refusal f) 0)).0;
      ys-length = ap (λ (m : Memory). length m.ys) p.drawn ∙ (along (eqb (refusal f) 0)).1;
      cells-length = ap (λ (m : Memory). length m.cells) p.drawn ∙ (along (eqb (refusal f) 0)).2;
    }
  where
    along : (b : Bool)
        → (length (cond b (laid (grid f)) blank).xs ≡ 16)
        × (length (cond b (laid (grid f)) blank).ys ≡ 16)
        × (length (cond b (laid (grid f)) blank).cells ≡ 256)
    along true = (length-list_of 16 _, length-list_of 16 _, length-list_of 256 _)
    along false = (refl, refl, refl)
