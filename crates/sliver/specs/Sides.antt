-- Inner: the sides of a piece, as their cells lie in memory (nobody has to believe these).
--
--   Shown g xs ys cells p == xs, ys and cells are the grid g's places and cells, and p is one of its pieces
--   Seen xs ys cells p    == there is such a grid
--   exposed_at n f u v     == the exposed length of a stretch from u to v, its cell within being n and the cell across f
--   exposed_in c l s       == the exposed length of the side s, over the cells c and the places l
--   Lies c l s            == the side s lies within the cells c and the places l, and these rise
--   low_of b, high_of b     == the two sides of a band; across the lowest line lies the last column or row, where no cell is inside
--   both_in c l b          == the exposed length of both sides of the band b, over the cells c and the places l
--   counted_in c l b t     == the same, or 0 where t says that these sides are spared
--   Banded c l b          == the band b lies within the cells c and the places l, and these rise
use Rattle.std.specs.Prelude.{ℕ, ◌+◌, ◌*◌, ◌-◌, ◌%◌, ◌≤◌, ◌<◌, ◌≡◌, Bool, cond, ◌&&◌, List, eqb, length, get_or}
use Rattle.sum.specs.Sum.{only, over}
use Rattle.outline.specs.Grid.{Grid, Sound, Drawn}
use Rattle.piece.specs.Piece.{Piece}
use Rattle.table.specs.Entry.{Valid}
use Rattle.sliver.specs.declared.Side.{Side}
use Rattle.sliver.specs.declared.Band.{Band}

pub record Shown (g : Grid) (xs ys cells : List ℕ) (p : Piece) : Type 0 where
  pub sound : Sound g
  pub drawn : Drawn g xs ys cells
  pub valid : Valid g.columns g.rows p

pub record Seen (xs ys cells : List ℕ) (p : Piece) : Type 0 where
  pub grid : Grid
  pub shown : Shown grid xs ys cells p

-- a stretch counts where the cell within is inside and the cell across is not
unfoldable pub exposed_at : ℕ → ℕ → ℕ → ℕ → ℕ
exposed_at near far low high = only (eqb near 1 && eqb far 0) (high - low)

unfoldable pub exposed_in : List ℕ → List ℕ → Side → ℕ
exposed_in cells lines s =
    over s.from.0 s.to.0
    (λ k. exposed_at (get_or cells (s.near + s.step * k) 0) (get_or cells (s.far + s.step * k) 0) (get_or lines k 0) (get_or lines (k + 1) 0))

pub record Lies (cells lines : List ℕ) (s : Side) : Type 0 where
  pub near : (k : ℕ) → k < s.to.0 → s.near + s.step * k < length cells
  pub far : (k : ℕ) → k < s.to.0 → s.far + s.step * k < length cells
  pub ordered : s.from.0 ≤ s.to.0
  pub most : s.to.0 ≤ 15
  pub crossed : s.to.0 < length lines
  pub rise : (k : ℕ) → k < s.to.0 → get_or lines k 0 ≤ get_or lines (k + 1) 0

-- its cells across lie before the low line
abbrev pub low_of : Band → Side
low_of b = record {
  near = b.across * b.low.0;
  far = b.across * ((b.low.0 + 15) % 16);
  step = b.along;
  from = b.from;
  to = b.to;
}

-- its cells within lie before the high line
abbrev pub high_of : Band → Side
high_of b = record {
  near = b.across * (b.high.0 - 1);
  far = b.across * b.high.0;
  step = b.along;
  from = b.from;
  to = b.to;
}

unfoldable pub both_in : List ℕ → List ℕ → Band → ℕ
both_in cells lines b = exposed_in cells lines (low_of b) + exposed_in cells lines (high_of b)

unfoldable pub counted_in : List ℕ → List ℕ → Band → Bool → ℕ
counted_in cells lines b spared = cond spared 0 (both_in cells lines b)

pub record Banded (cells lines : List ℕ) (b : Band) : Type 0 where
  pub ordered : b.low.0 < b.high.0
  pub most : b.high.0 ≤ 15
  pub along : b.from.0 ≤ b.to.0
  pub end : b.to.0 ≤ 15
  pub cell : (i j : ℕ) → i < 16 → j < 16 → b.across * i + b.along * j < length cells
  pub count : length lines ≡ 16
  pub rise : (k : ℕ) → k < b.to.0 → get_or lines k 0 ≤ get_or lines (k + 1) 0
