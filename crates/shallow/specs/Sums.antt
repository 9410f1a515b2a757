-- Inner: what a piece of a strip adds up to, in single numbers (nobody has to believe these).
--
--   Summed g a c b d s        == s has the cells, the inside cells, the height and the exposed bottom and top of the piece of the grid g
--                                between the x lines a and c and the y lines b and d
--   Whole g r a c b d s       == and its exposed flanks, or 0 where the rule r spares them
--   Small s                   == these numbers, the flanks aside, are so small that a few of them can be added
--   empty_of h                 == the sums of a row of cells of the height h that has no column yet
--   flanks_at cells a c j h    == the exposed flanks of the row j, h nm high, of the strip between the x lines a and c
--   grown_row cells r strip step j row
--                             == the sums of the row j of the strip: row with its last column more, which is step nm wide
--   stacked_of low high        == the sums of the piece that two pieces make up, one above the other
--   shot_of r w s              == the charge of a piece of the width w with these sums as a shot
use Rattle.std.specs.Prelude.{ℕ, ◌+◌, ◌*◌, ◌-◌, ◌≤◌, ◌≡◌, not, List, get_or}
use Rattle.sum.specs.Sum.{only}
use Rattle.outline.specs.Grid.{Grid}
use Rattle.rule.specs.declared.Rule.{Rule}
use Rattle.rule.specs.Charge.{sliver_of, spared, charge_of}
use Rattle.piece.specs.Piece.{box, cells, inside_cells, width, height, left, right, bottom, top}
use Rattle.table.specs.Run.{bare}
use Rattle.table.specs.Side.{below_at, before_at}
use Rattle.shallow.specs.declared.cuts.Strip.{Strip}
use Rattle.shallow.specs.declared.sums.Sums.{Sums}

pub record Summed (g : Grid) (a c b d : ℕ) (s : Sums) : Type 0 where
  pub cells_are : s.cells ≡ cells (box a c b d)
  pub inside_are : s.inside ≡ inside_cells g (box a c b d)
  pub height-is : s.height ≡ height g b d
  pub bottom-is : s.bottom ≡ bottom g (box a c b d)
  pub top-is : s.top ≡ top g (box a c b d)

pub record Whole (g : Grid) (r : Rule) (a c b d : ℕ) (s : Sums) : Type 0 where
  pub summed : Summed g a c b d s
  pub flanks_are : s.flanks ≡ only (not (spared r (width g a c))) (left g (box a c b d) + right g (box a c b d))

pub record Small (s : Sums) : Type 0 where
  pub cells : s.cells ≤ 225
  pub inside : s.inside ≤ 225
  pub height : s.height ≤ 65535
  pub bottom : s.bottom ≤ 65535
  pub top : s.top ≤ 65535

unfoldable pub empty_of : ℕ → Sums
empty_of h = record { cells = 0; inside = 0; height = h; bottom = 0; top = 0; flanks = 0 }

unfoldable pub flanks_at : List ℕ → ℕ → ℕ → ℕ → ℕ → ℕ
flanks_at cs a c j h =
    bare (get_or cs (16 * a + j) 0) (get_or cs (before_at a + j) 0) h + bare (get_or cs (16 * (c - 1) + j) 0) (get_or cs (16 * c + j) 0) h

unfoldable pub grown_row : List ℕ → Rule → Strip → ℕ → ℕ → Sums → Sums
grown_row cs r strip step j row =
    record {
      cells = row.cells + 1;
      inside = row.inside + get_or cs (16 * (strip.c.0 - 1) + j) 0;
      height = row.height;
      bottom = row.bottom + bare (get_or cs (16 * (strip.c.0 - 1) + j) 0) (below_at cs (16 * (strip.c.0 - 1)) j) step;
      top = row.top + bare (get_or cs (16 * (strip.c.0 - 1) + j) 0) (get_or cs (16 * (strip.c.0 - 1) + j + 1) 0) step;
      flanks = only (not (spared r strip.width)) (flanks_at cs strip.a.0 strip.c.0 j row.height);
    }

unfoldable pub stacked_of : Sums → Sums → Sums
stacked_of low high =
    record {
      cells = low.cells + high.cells;
      inside = low.inside + high.inside;
      height = low.height + high.height;
      bottom = low.bottom;
      top = high.top;
      flanks = low.flanks + high.flanks;
    }

unfoldable pub shot_of : Rule → ℕ → Sums → ℕ
shot_of r w s = charge_of r (sliver_of r w s.height s.flanks (s.bottom + s.top))
