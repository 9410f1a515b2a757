-- Inner: shots that were written, as they are measured (nobody has to believe these).
--
--   shot_no l k                == the shot number k of the list of shots l
--   Stands g .. list at s     == the four numbers of the piece s of the grid g stand in the list from the index at on
--   Standing xs ys list at    == those of some grid's piece do
--   Listed g .. list r l n    == the list begins with the numbers of the n shots l, pieces of the grid g, and they have few slivers under r
--   Measurable .. list r n    == it begins with those of some grid's shots
--   Priced .. list r n c      == and these are charged c together
use Rattle.std.specs.Prelude.{ℕ, ◌+◌, ◌*◌, ◌≤◌, ◌<◌, ◌≡◌, List, length, get_or}
use Rattle.sum.specs.Sum.{sum_of}
use Rattle.outline.specs.Grid.{Grid, Sound, Drawn}
use Rattle.rule.specs.declared.Rule.{Rule}
use Rattle.piece.specs.Piece.{Piece, box, sliver, charge}
use Rattle.table.specs.Entry.{Valid}

unfoldable pub shot_no : List Piece → ℕ → Piece
shot_no l k = get_or l k (box 0 0 0 0)

pub record Stands (g : Grid) (xs ys cells list : List ℕ) (at : ℕ) (s : Piece) : Type 0 where
  pub sound : Sound g
  pub drawn : Drawn g xs ys cells
  pub valid : Valid g.columns g.rows s
  pub room : at + 4 ≤ length list
  pub a : get_or list at 0 ≡ g.x s.a
  pub b : get_or list (at + 1) 0 ≡ g.y s.b
  pub c : get_or list (at + 2) 0 ≡ g.x s.c
  pub d : get_or list (at + 3) 0 ≡ g.y s.d

pub record Standing (xs ys list : List ℕ) (at : ℕ) : Type 0 where
  pub grid : Grid
  pub cells : List ℕ
  pub shot : Piece
  pub stands : Stands grid xs ys cells list at shot

pub record Listed (g : Grid) (cells xs ys list : List ℕ) (r : Rule) (l : List Piece) (n : ℕ) : Type 0 where
  pub count : n ≡ length l
  pub most : n ≤ 225
  pub each : (k : ℕ) → k < n → Stands g xs ys cells list (4 * k) (shot_no l k)
  pub few : sum_of (sliver g r) l ≤ 2097120

pub record Measurable (cells xs ys list : List ℕ) (r : Rule) (n : ℕ) : Type 0 where
  pub grid : Grid
  pub shots : List Piece
  pub listed : Listed grid cells xs ys list r shots n

pub record Priced (cells xs ys list : List ℕ) (r : Rule) (n c : ℕ) : Type 0 where
  pub grid : Grid
  pub shots : List Piece
  pub listed : Listed grid cells xs ys list r shots n
  pub cost : c ≡ sum_of (charge grid r) shots
