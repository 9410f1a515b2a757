-- To believe: rows of cuts weighed, of the drawings of the scope and of Item 1.
--
--   CutRow               == a figure, and how many cuts its fracture weighs
--   square, touching, apart   == a square; two that touch in a corner; two rings apart
--   cut_rows              == the table
use Rattle.std.specs.Prelude.{ℕ, List, [], ◌∷◌}
use Rattle.figure.specs.Figure.{Figure, figure}
use Rattle.demands.specs.Rows.{outline, L, B, framed}

pub record CutRow : Type 0 where
  pub figure : Figure
  pub cuts : ℕ

abbrev row : Figure → ℕ → CutRow
row f n = record { figure = f; cuts = n }

abbrev square : Figure
square = outline (0 ∷ 0 ∷ 100 ∷ 0 ∷ 100 ∷ 100 ∷ 0 ∷ 100 ∷ [])

abbrev touching : Figure
touching = outline (0 ∷ 0 ∷ 10 ∷ 0 ∷ 10 ∷ 20 ∷ 20 ∷ 20 ∷ 20 ∷ 10 ∷ 0 ∷ 10 ∷ [])

abbrev apart : Figure
apart = figure (0 ∷ 0 ∷ 10 ∷ 0 ∷ 10 ∷ 10 ∷ 0 ∷ 10 ∷ 50 ∷ 50 ∷ 60 ∷ 50 ∷ 60 ∷ 60 ∷ 50 ∷ 60 ∷ []) (4 ∷ 4 ∷ [])

abbrev pub cut_rows : List CutRow
cut_rows = row L 4 ∷ row B 13 ∷ row framed 32 ∷ row touching 6 ∷ row apart 32 ∷ row square 0 ∷ []
