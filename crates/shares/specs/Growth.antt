-- Inner: the sums of all strips of one width, where the rule counts them, and how strips grow by a column (nobody has to believe these).
-- They stand as tally/specs/Sums.antt says. Lanes past the last strip are strips too, but their flanks say nothing.
--
--   wrap_added t unit at from l == the number at at + l of t and the one at from + l of unit together, modulo 2 ^ 16
--   narrow_flanks unit wide t left right l
--                              == the shares at left + l and right + l together, where the l-th width is below t
--   RowGrown unit wide t last j s u
--                              == u is the sums s with the row j of all strips grown
--   RowsGrown unit wide t last n s u
--                              == u is the sums s with the rows below n grown
--   Grown g r w sums           == the first three runs are those of the strips of the width w of the grid g
--   Flanked g r w sums         == the fourth run is, of the strips in the frame: left and right side of each row together
--   Ripe g r price rows w t short wide sums
--                              == the sums are those of the strips of g that are a column narrower than w, these shares are its cells',
--                                 and all they owe fits 16 bits; wide has the widths in nm of the strips of w columns
use Rattle.std.specs.Prelude.{◌≡◌, ℕ, suc, ◌+◌, ◌-◌, ◌*◌, ◌<◌, ◌≤◌, not, List, length, ◌≢◌, nat_lt, slice_index}
use Rattle.sum.specs.Sum.{only}
use Rattle.outline.specs.Grid.{Grid, Sound}
use Rattle.rule.specs.declared.Rule.{Rule}
use Rattle.rule.specs.Charge.{spared}
use Rattle.piece.specs.Piece.{box, inside_cells, width, height, left, right, bottom, top}
use Rattle.tally.specs.Sums.{Widths}
use Rattle.shares.specs.Shares.{wrap, dues_of, Shares}

unfoldable pub wrap_added : List ℕ → List ℕ → ℕ → ℕ → ℕ → ℕ
wrap_added t unit at from l = wrap (slice_index t (at + l)) (slice_index unit (from + l))

unfoldable pub narrow_flanks : List ℕ → List ℕ → ℕ → ℕ → ℕ → ℕ → ℕ
narrow_flanks unit wide t left right l = only (nat_lt (slice_index wide l) t) (wrap (slice_index unit (left + l)) (slice_index unit (right + l)))

pub record RowGrown (unit wide : List ℕ) (t last j : ℕ) (s u : List ℕ) : Type 0 where
  pub long : length u ≡ length s
  pub grown : (k l : ℕ) → k < 3 → l < 16
      → slice_index u (256 * k + (16 * j + l)) ≡ wrap (slice_index s (256 * k + (16 * j + l))) (slice_index unit (512 * k + (32 * j + (l + last))))
  pub flanked : (l : ℕ) → l < 16
      → slice_index u (768 + (16 * j + l)) ≡ only (nat_lt (slice_index wide l) t) (wrap (slice_index unit (1536 + (32 * j + l))) (slice_index unit (2048 + (32 * j + (l + last)))))
  pub kept : (k i l : ℕ) → i < 16 → l < 16 → (i ≢ j) → slice_index u (256 * k + (16 * i + l)) ≡ slice_index s (256 * k + (16 * i + l))

pub record RowsGrown (unit wide : List ℕ) (t last n : ℕ) (s u : List ℕ) : Type 0 where
  pub long : length u ≡ length s
  pub grown : (k j l : ℕ) → k < 3 → j < n → l < 16
      → slice_index u (256 * k + (16 * j + l)) ≡ wrap (slice_index s (256 * k + (16 * j + l))) (slice_index unit (512 * k + (32 * j + (l + last))))
  pub flanked : (j l : ℕ) → j < n → l < 16
      → slice_index u (768 + (16 * j + l)) ≡ only (nat_lt (slice_index wide l) t) (wrap (slice_index unit (1536 + (32 * j + l))) (slice_index unit (2048 + (32 * j + (l + last)))))
  pub kept : (k j l : ℕ) → n ≤ j → j < 16 → l < 16 → slice_index u (256 * k + (16 * j + l)) ≡ slice_index s (256 * k + (16 * j + l))

pub record Grown (g : Grid) (r : Rule) (w : ℕ) (sums : List ℕ) : Type 0 where
  pub long : length sums ≡ 1024
  pub counts : (a j : ℕ) → a < 16 → j < g.rows → slice_index sums (16 * j + a) ≡ inside_cells g (box a (a + w) j (suc j))
  pub bottoms : (a b d : ℕ) → a < 16 → b < g.rows
      → slice_index sums (256 + (16 * b + a)) ≡ only (not (spared r (height g b (suc b)))) (bottom g (box a (a + w) b d))
  pub tops : (a b d : ℕ) → a < 16 → d < g.rows
      → slice_index sums (512 + (16 * d + a)) ≡ only (not (spared r (height g d (suc d)))) (top g (box a (a + w) b (suc d)))

pub record Flanked (g : Grid) (r : Rule) (w : ℕ) (sums : List ℕ) : Type 0 where
  pub flanks : (a j : ℕ) → a + w ≤ g.columns → j < g.rows
      → slice_index sums (768 + (16 * j + a))
      ≡ only (not (spared r (width g a (a + w)))) (left g (box a (a + w) j (suc j)) + right g (box a (a + w) j (suc j)))

pub record Ripe (g : Grid) (r : Rule) (price rows w t : ℕ) (short wide sums : List ℕ) : Type 0 where
  pub sound : Sound g
  pub rows_are : g.rows ≡ rows
  pub wide-some : 1 ≤ w
  pub wide-most : w ≤ g.columns
  pub threshold-is : r.threshold ≡ t
  pub due_most : dues_of g r price ≤ 64535
  pub shares : Shares g r short
  pub widths : Widths g w wide
  pub grown : Grown g r (w - 1) sums
