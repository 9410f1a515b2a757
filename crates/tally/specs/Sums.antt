-- Inner: the sums of all strips of one width (nobody has to believe these).
-- The strip of the width w, in columns, that begins at the x line a stands in lane a, 0 to 15; the sums of its row j of cells stand at
-- 16 j + a of four runs of 256 numbers: inside cells, exposed bottoms, exposed tops, exposed flanks. Lanes past the last strip are strips
-- too: beyond the frame no cell is inside.
--
--   Grown g w sums   == the first three runs are those of the strips of the width w of the grid g
--   Flanked g w sums == the fourth run is: left and right side of each row together, whatever the rule
--   Widths g w wide  == wide has at a the width in nm of the strip that begins at the x line a, where it lies in the frame
use Rattle.std.specs.Prelude.{ℕ, suc, ◌+◌, ◌*◌, ◌≤◌, ◌<◌, ◌≡◌, List, length, get_or}
use Rattle.outline.specs.Grid.{Grid}
use Rattle.piece.specs.Piece.{box, inside_cells, width, left, right, bottom, top}

pub record Grown (g : Grid) (w : ℕ) (sums : List ℕ) : Type 0 where
  pub long : length sums ≡ 1024
  pub counts : (a j : ℕ) → a < 16 → j < g.rows → get_or sums (16 * j + a) 0 ≡ inside_cells g (box a (a + w) j (suc j))
  pub bottoms : (a b d : ℕ) → a < 16 → b < g.rows → get_or sums (256 + (16 * b + a)) 0 ≡ bottom g (box a (a + w) b d)
  pub tops : (a b d : ℕ) → a < 16 → d < g.rows → get_or sums (512 + (16 * d + a)) 0 ≡ top g (box a (a + w) b (suc d))

pub record Flanked (g : Grid) (w : ℕ) (sums : List ℕ) : Type 0 where
  pub flanks : (a j : ℕ) → a < 16 → j < g.rows
      → get_or sums (768 + (16 * j + a)) 0 ≡ left g (box a (a + w) j (suc j)) + right g (box a (a + w) j (suc j))

pub record Widths (g : Grid) (w : ℕ) (wide : List ℕ) : Type 0 where
  pub long : length wide ≡ 16
  pub widths : (a : ℕ) → a + w ≤ g.columns → get_or wide a 0 ≡ width g a (a + w)
