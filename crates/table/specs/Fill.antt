-- Inner: the fill of the cost table (nobody has to believe these).
-- A fill asks `Ready` of the grid g that lies in memory, `stored columns rows xs ys cells`, and leaves in the table `costs Straight g rule`, and
-- everything beyond as it came in.
--
--   Ready g r xs ys cells table  == the grid g is sound and lies in memory so, the weight is within its limit, and the table has an
--                                   entry for every piece
--   Reached mode g r t a c       == the table t has the cost of each piece whose low x line is above a, and of each that begins at a
--                                   and ends below c
--   Beyond n t u                 == from the n-th number on, u is as the list t
use Rattle.std.specs.Prelude.{ℕ, ◌≤◌, ◌<◌, ◌≡◌, ◌⊎◌, List, length, get_or}
use Rattle.outline.specs.Grid.{Grid, Sound, Drawn}
use Rattle.rule.specs.declared.Rule.{Rule}
use Rattle.rule.specs.Rules.{limit}
use Rattle.piece.specs.declared.Mode.{Mode}
use Rattle.piece.specs.Piece.{Piece}
use Rattle.piece.specs.Cuts.{cost}
use Rattle.table.specs.Entry.{entry_count, entry_of, Valid}

pub record Ready (g : Grid) (r : Rule) (xs ys cells table : List ℕ) : Type 0 where
  pub sound : Sound g
  pub drawn : Drawn g xs ys cells
  pub weight-most : r.weight ≤ limit
  pub room : entry_count g.columns g.rows ≤ length table

pub record Reached (mode : Mode) (g : Grid) (r : Rule) (t : List ℕ) (a c : ℕ) : Type 0 where
  pub right : (p : Piece) → Valid g.columns g.rows p → (a < p.a) ⊎ ((p.a ≡ a) × (p.c < c))
      → get_or t (entry_of g.columns g.rows p) 0 ≡ cost mode g r p

pub record Beyond (n : ℕ) (t u : List ℕ) : Type 0 where
  pub long : length u ≡ length t
  pub kept : (k : ℕ) → n ≤ k → get_or u k 0 ≡ get_or t k 0
