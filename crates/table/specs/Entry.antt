-- To believe: the cost table, which entry is a piece's, and what the table holds (docs/SCOPE.md, "Lent memory of a fracture").
-- Lines are numbered from 0; `last` is the number of the last of them, which is also the count of columns or rows between them.
--
--   pairs_below last a        == how many pairs of lines have their low line below a
--   pair_count last           == how many pairs of lines there are
--   pair_no last a c          == the number of the pair (a, c): (0, 1), (0, 2), .., (1, 2), .. from 0
--   Pair, pair a c           == two lines, the low one and the high one
--   pairs last               == the pairs in the order of their numbers
--   entry_count columns rows  == how many pieces, and so entries, there are
--   entry_of columns rows p   == the entry of the piece p: the number of its x pair x the count of y pairs + the number of its y pair
--   Valid columns rows p     == p is a piece of a grid of so many columns and rows
--   tabled f columns rows    == what f has for each piece of such a grid, in the order of entries
--   costs mode g r           == the cost of every piece of the grid g under the rule r, in that order
use Rattle.std.specs.Prelude.{ℕ, zero, suc, ◌+◌, ◌*◌, ◌-◌, ◌≤◌, ◌<◌, List, map}
use Rattle.sum.specs.Sum.{join}
use Rattle.outline.specs.Grid.{Grid}
use Rattle.rule.specs.declared.Rule.{Rule}
use Rattle.piece.specs.declared.Mode.{Mode}
use Rattle.piece.specs.Piece.{Piece, box}
use Rattle.piece.specs.Cuts.{run, between, cost}

unfoldable pub pairs_below : ℕ → ℕ → ℕ
pairs_below last zero = 0
pairs_below last (suc a) = pairs_below last a + (last - a)

unfoldable pub pair_count : ℕ → ℕ
pair_count last = pairs_below last last

unfoldable pub pair_no : ℕ → ℕ → ℕ → ℕ
pair_no last a c = pairs_below last a + (c - suc a)

pub record Pair : Type 0 where
  pub low : ℕ
  pub high : ℕ

abbrev pub pair : ℕ → ℕ → Pair
pair a c = record { low = a; high = c }

unfoldable pub pairs : ℕ → List Pair
pairs last = join (λ a. map (pair a) (between a (suc last))) (run 0 last)

unfoldable pub entry_count : ℕ → ℕ → ℕ
entry_count columns rows = pair_count columns * pair_count rows

unfoldable pub entry_of : ℕ → ℕ → Piece → ℕ
entry_of columns rows p = pair_no columns p.a p.c * pair_count rows + pair_no rows p.b p.d

pub record Valid (columns rows : ℕ) (p : Piece) : Type 0 where
  pub ac : p.a < p.c
  pub cx : p.c ≤ columns
  pub bd : p.b < p.d
  pub dy : p.d ≤ rows

unfoldable pub tabled : (Piece → ℕ) → ℕ → ℕ → List ℕ
tabled f columns rows = join (λ x. map (λ y. f (box x.low x.high y.low y.high)) (pairs rows)) (pairs columns)

unfoldable pub costs : Mode → Grid → Rule → List ℕ
costs mode g r = tabled (cost mode g r) g.columns g.rows
