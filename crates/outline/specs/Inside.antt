-- To believe: the grid of a figure, and refusal 5.
--
--   grid_of xs ys ws    == the grid of the x lines xs, the y lines ys and the walls ws: a cell is inside where its low x and its y range
--                         are within
--   grid f             == the grid of the figure f
--   inside_cells g      == the number of cells of g that are inside
--   empty g            == 5: no cell is inside
use Rattle.std.specs.Prelude.{ℕ, suc, ◌-◌, Bool, ◌&&◌, List, ltb, eqb, length}
use Rattle.sum.specs.Sum.{only, over}
use Rattle.figure.specs.declared.Axis.TheVariants.{X, Y}
use Rattle.figure.specs.Figure.{Figure, corners_of, edges_of}
use Rattle.figure.specs.Inside.{Wall, walls, within}
use Rattle.outline.specs.Lines.{lines, place}
use Rattle.outline.specs.Grid.{Grid}

unfoldable pub grid_of : List ℕ → List ℕ → List Wall → Grid
grid_of xs ys ws =
    record {
      columns = length xs - 1;
      rows = length ys - 1;
      x = place xs;
      y = place ys;
      inside =
          λ i j.
          ltb i (length xs - 1) && (ltb j (length ys - 1) && within ws (place xs i) (place ys j) (place ys (suc j)));
    }

unfoldable pub grid : Figure → Grid
grid f = grid_of (lines X (corners_of f)) (lines Y (corners_of f)) (walls (edges_of f))

unfoldable pub inside_cells : Grid → ℕ
inside_cells g = over 0 g.columns (λ i. over 0 g.rows (λ j. only (g.inside i j) 1))

unfoldable pub empty : Grid → Bool
empty g = eqb (inside_cells g) 0
