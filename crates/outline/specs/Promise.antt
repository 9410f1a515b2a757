-- To believe: what drawing a figure promises, for every list of numbers and every list of ring lengths.
--
--   answer_no a       == the number of the answer a, as of a shape; 0 for an accepted figure
--   refusal f        == the first of 2, 3, 4, 5 whose condition holds of the figure f, 0 where none does
--   list_of n h       == the list h 0, h 1, .. of n numbers
--   laid g           == how the grid g lies in memory; 0 past the last line and beyond the frame
--   blank            == the grid in memory beside a refusal: all zeros
--   Sheet            == an answer with the grid in memory beside it
--   sheet r xs ys cells
--                    == the sheet of what is answered, a drawing or a refusal, and of the three lists that it was drawn into; a
--                       refusal has no columns and no rows
--   Promise f s      == the sheet s drawn of the figure f: its answer's number is the refusal's; the grid is that of the figure, or
--                       blank beside a refusal; and the grid of an accepted figure is sound
use Rattle.std.specs.Prelude.{ℕ, zero, suc, ◌/◌, ◌%◌, ◌≡◌, cond, List, [], ◌∷◌, ◌++◌, leb, eqb, replicate, Result, Ok, Err, ⊤}
use Rattle.sum.specs.Sum.{only}
use Rattle.refusal.specs.declared.Refusal.{Refusal}
use Rattle.refusal.specs.declared.Refusal.TheVariants as because
use Rattle.refusal.specs.Refusals.{refusal_no}
use Rattle.figure.specs.Figure.{Figure, fault, shape_no}
use Rattle.outline.specs.declared.Drawing.{Drawing}
use Rattle.outline.specs.Grid.{most_lines, most_cells, Grid, Sound, Memory, memory}
use Rattle.outline.specs.Inside.{grid, empty}

abbrev pub answer_no : Result ⊤ Refusal → ℕ
answer_no = shape_no

unfoldable pub refusal : Figure → ℕ
refusal f = cond (eqb (fault f) 0) (cond (empty (grid f)) (refusal_no because.Empty) 0) (fault f)

unfoldable pub list_of : ℕ → (ℕ → ℕ) → List ℕ
list_of zero f = []
list_of (suc n) f = list_of n f ++ (f n ∷ [])

unfoldable pub laid : Grid → Memory
laid g =
    record {
      columns = g.columns;
      rows = g.rows;
      xs = list_of most_lines (λ i. only (leb i g.columns) (g.x i));
      ys = list_of most_lines (λ j. only (leb j g.rows) (g.y j));
      cells = list_of most_cells (λ k. only (g.inside (k / most_lines) (k % most_lines)) 1);
    }

unfoldable pub blank : Memory
blank = memory 0 0 (replicate most_lines 0) (replicate most_lines 0) (replicate most_cells 0)

pub record Sheet : Type 0 where
  pub answer : Result ⊤ Refusal
  pub grid : Memory

unfoldable pub sheet : Result Drawing Refusal → List ℕ → List ℕ → List ℕ → Sheet
sheet (Ok r) xs ys cells = record { answer = Ok tt; grid = memory r.columns r.rows xs ys cells }
sheet (Err why) xs ys cells = record { answer = Err why; grid = memory 0 0 xs ys cells }

pub record Promise (f : Figure) (s : Sheet) : Type 0 where
  pub told : answer_no s.answer ≡ refusal f
  pub drawn : s.grid ≡ cond (eqb (refusal f) 0) (laid (grid f)) blank
  pub sound : refusal f ≡ 0 → Sound (grid f)
