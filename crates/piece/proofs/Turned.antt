-- A grid turned over, x for y: what holds across holds upwards. Assumes nothing.
--
--   turned g, turn p      == the grid and the piece with x and y exchanged
--   sum_turn, cells-turn, inside-turn, kind-turn, charge-turn   == sums over cells, counts, kinds and charges stay what they are
--   sound-turn            == a sound grid stays sound
use Prim.Native.Nat.{ℕ, ◌+◌}
use mathlib.Core.Path.{◌≡◌, ap, ap₂}
use Rattle.sum.specs.Sum.{only}
use Rattle.sum.proofs.Sum.{over_swap}
use Rattle.outline.specs.Grid.{Grid, Sound}
use Rattle.rule.specs.declared.Rule.{Rule}
use Rattle.rule.specs.Charge.{charge_of}
use Rattle.rule.proofs.Charge.{sliver-turn}
use Rattle.piece.specs.Piece.{Piece, box, cell_sum, cells, kind_of, inside_cells, kind, width, height, left, right, bottom, top, sliver, charge}

abbrev pub turned : Grid → Grid
turned g = record { columns = g.rows; rows = g.columns; x = g.y; y = g.x; inside = λ i j. g.inside j i }

abbrev pub turn : Piece → Piece
turn p = box p.b p.d p.a p.c

pub sum_turn : (f : ℕ → ℕ → ℕ) (p : Piece) → cell_sum f p ≡ cell_sum (λ i j. f j i) (turn p)
unfolding cell_sum
sum_turn f p = over_swap p.a p.c p.b p.d f

pub cells-turn : (p : Piece) → cells p ≡ cells (turn p)
unfolding cells
cells-turn p = sum_turn (λ i j. 1) p

module _ (g : Grid) where
  pub inside-turn : (p : Piece) → inside_cells g p ≡ inside_cells (turned g) (turn p)
  unfolding inside_cells
  inside-turn p = sum_turn (λ i j. only (g.inside i j) 1) p

  pub kind-turn : (p : Piece) → kind g p ≡ kind (turned g) (turn p)
  unfolding kind
  kind-turn p = ap₂ kind_of (inside-turn p) (cells-turn p)

  pub charge-turn : (r : Rule) (p : Piece) → charge g r p ≡ charge (turned g) r (turn p)
  unfolding charge sliver left right bottom top width height
  charge-turn r p = ap (charge_of r) (sliver-turn r (width g p.a p.c) (height g p.b p.d) (left g p + right g p) (bottom g p + top g p))

  pub sound-turn : Sound g → Sound (turned g)
  sound-turn s = record {
    columns-some = s.rows-some;
    columns-most = s.rows-most;
    rows-some = s.columns-some;
    rows-most = s.columns-most;
    x-up = s.y-up;
    y-up = s.x-up;
    x_rises = s.y_rises;
    y_rises = s.x_rises;
    x-most = s.y-most;
    y-most = s.x-most;
    right-none = λ i j. s.above-none j i;
    above-none = λ i j. s.right-none j i;
  }
