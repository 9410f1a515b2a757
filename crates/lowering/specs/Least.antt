-- Inner: the least of the pinwheels of a piece, weighed from a table (nobody has to believe these).
--
--   LeastWheel t columns rows p start r
--                                == r is the least of start and of what the table t has for the five parts of each pinwheel of the piece p,
--                                   of either turn
--   Weighable t columns rows a c == the strip between the x lines a and c of a grid of so many columns and of three to five rows: the table
--                                   has all entries, and the five numbers of each pinwheel of its pieces are below 2 ^ 32 together
use Rattle.std.specs.Prelude.{ℕ, ◌≤◌, ◌<◌, ◌^◌, List, length}
use Rattle.piece.specs.declared.Turn.{Turn}
use Rattle.piece.specs.Piece.{Piece, box}
use Rattle.piece.specs.Cuts.{wheel, Inner}
use Rattle.table.specs.Entry.{entry_count}
use Rattle.verdict.specs.Verdict.{wheel_in}
use Rattle.verdict.specs.Pinwheels.{weight_of}

pub record LeastWheel (t : List ℕ) (columns rows : ℕ) (p : Piece) (start r : ℕ) : Type 0 where
  pub below : r ≤ start
  pub under : (turn : Turn) (j l k m : ℕ) → Inner p j l k m → r ≤ weight_of t (wheel_in columns rows p (wheel turn j l k m))
  pub above : (n : ℕ) → n ≤ start → ((turn : Turn) (j l k m : ℕ) → Inner p j l k m → n ≤ weight_of t (wheel_in columns rows p (wheel turn j l k m))) → n ≤ r

pub record Weighable (t : List ℕ) (columns rows a c : ℕ) : Type 0 where
  pub columns-most : columns ≤ 15
  pub rows-some : 3 ≤ rows
  pub rows-most : rows ≤ 5
  pub ac : a < c
  pub cx : c ≤ columns
  pub entries : entry_count columns rows ≤ length t
  pub sums : (turn : Turn) (b d j l k m : ℕ) → d ≤ rows → Inner (box a c b d) j l k m → weight_of t (wheel_in columns rows (box a c b d) (wheel turn j l k m)) < 2 ^ 32
