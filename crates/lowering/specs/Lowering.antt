-- Inner: how far a table is lowered from the costs by straight cuts to those by pinwheels (nobody has to believe these).
--
--   Sized plan                    == the plan has the size of a grid with pinwheels: three columns and more, three to five rows
--   Between g r t cells plan      == cells are those of the grid g, plan has its size, and each entry of the table t has what its piece costs
--                                    under the rule r, by straight cuts or by pinwheels too
--   Begun g r t plan a c          == by pinwheels where the low x line is above a, and where the piece begins at a and ends below c
--   Raised g r t plan a c b d     == the same of the pieces between the x lines a and c: where the low y line is above b, and where the piece
--                                    begins at b and ends below d
--   LeastTurn g r p v             == v is the least that the five parts of a pinwheel of the piece p cost; with no pinwheel it is `uncut`
--   Turns g r best plan a c       == best has that of each piece between the x lines a and c, by the number of its pair of y lines
--   Lowering g r t cells plan a c == all of that for strips: those up to (a, c) are lowered
--   Standing g r t cells best plan a c b d
--                                 == and within the strip (a, c): its pieces up to (b, d) are lowered
--   AtPiece g r t cells plan p v  == the same at the piece p with its entry, v being its least pinwheel
--   Priced g r p t u              == u is the list t with the cost by pinwheels at the entry of p
--   Lowerable, Standable, Weighed, Strippable, Beginnable, Startable
--                                 == there are such a grid and such a rule: at a piece, at its first line, in a strip, at a strip, at its first
--                                    line, and before anything is lowered
use Rattle.std.specs.Prelude.{ℕ, ◌+◌, ◌*◌, ◌≤◌, ◌<◌, ◌≡◌, ◌⊎◌, List, length, get_or}
use Rattle.sum.specs.Sum.{only, sum_of}
use Rattle.outline.specs.Grid.{Grid, Sound}
use Rattle.rule.specs.declared.Rule.{Rule}
use Rattle.rule.specs.Rules.{limit}
use Rattle.piece.specs.declared.Mode.TheVariants.{Straight, Pinwheel}
use Rattle.piece.specs.declared.Turn.{Turn}
use Rattle.piece.specs.Piece.{Piece, box}
use Rattle.piece.specs.Meant.{meant}
use Rattle.piece.specs.Cuts.{wheel, parts, Inner, cost}
use Rattle.table.specs.Entry.{Valid, pair_count, pair_no, entry_of, entry_count}
use Rattle.table.specs.Cuts.{uncut}
use Rattle.verdict.specs.declared.Plan.{Plan}
use Rattle.verdict.specs.declared.Numbered.{Numbered}
use Rattle.verdict.specs.Memory.{Known, Costed}

pub record Sized (plan : Plan) : Type 0 where
  pub columns-some : 3 ≤ plan.columns
  pub rows-some : 3 ≤ plan.rows
  pub rows-most : plan.rows ≤ 5

pub record Between (g : Grid) (r : Rule) (t cells : List ℕ) (plan : Plan) : Type 0 where
  pub sound : Sound g
  pub weight : r.weight ≤ limit
  pub sized : Sized plan
  pub columns : plan.columns ≡ g.columns
  pub rows : plan.rows ≡ g.rows
  pub pairs : plan.pairs ≡ pair_count plan.rows
  pub cells-length : length cells ≡ 256
  pub cell-at : (i j : ℕ) → i < 16 → j < 16 → get_or cells (16 * i + j) 0 ≡ only (g.inside i j) 1
  pub entries : entry_count plan.columns plan.rows ≤ length t
  pub either : (p : Piece) → Valid plan.columns plan.rows p
      → (get_or t (entry_of plan.columns plan.rows p) 0 ≡ cost Straight g r p) ⊎ (get_or t (entry_of plan.columns plan.rows p) 0 ≡ cost Pinwheel g r p)

pub record Begun (g : Grid) (r : Rule) (t : List ℕ) (plan : Plan) (a c : ℕ) : Type 0 where
  pub done : (p : Piece) → Valid plan.columns plan.rows p → (a < p.a) ⊎ ((p.a ≡ a) × (p.c < c))
      → get_or t (entry_of plan.columns plan.rows p) 0 ≡ cost Pinwheel g r p

pub record Raised (g : Grid) (r : Rule) (t : List ℕ) (plan : Plan) (a c b d : ℕ) : Type 0 where
  pub done : (p : Piece) → Valid plan.columns plan.rows p → p.a ≡ a → p.c ≡ c → (b < p.b) ⊎ ((p.b ≡ b) × (p.d < d))
      → get_or t (entry_of plan.columns plan.rows p) 0 ≡ cost Pinwheel g r p

pub record LeastTurn (g : Grid) (r : Rule) (p : Piece) (v : ℕ) : Type 0 where
  pub under : (turn : Turn) (j l k m : ℕ) → Inner p j l k m → v ≤ sum_of (cost Pinwheel g r) (parts p (wheel turn j l k m))
  pub above : (n : ℕ) → n ≤ uncut
      → ((turn : Turn) (j l k m : ℕ) → Inner p j l k m → n ≤ sum_of (cost Pinwheel g r) (parts p (wheel turn j l k m)))
      → n ≤ v

pub record Turns (g : Grid) (r : Rule) (best : List ℕ) (plan : Plan) (a c : ℕ) : Type 0 where
  pub least : (b d : ℕ) → b < d → d ≤ plan.rows → LeastTurn g r (box a c b d) (get_or best (pair_no plan.rows b d) 0)

pub record Lowering (g : Grid) (r : Rule) (t cells : List ℕ) (plan : Plan) (a c : ℕ) : Type 0 where
  pub between : Between g r t cells plan
  pub begun : Begun g r t plan a c

pub record Standing (g : Grid) (r : Rule) (t cells best : List ℕ) (plan : Plan) (a c b d : ℕ) : Type 0 where
  pub between : Between g r t cells plan
  pub begun : Begun g r t plan a c
  pub turns : Turns g r best plan a c
  pub raised : Raised g r t plan a c b d

pub record AtPiece (g : Grid) (r : Rule) (t cells : List ℕ) (plan : Plan) (p : Numbered) (v : ℕ) : Type 0 where
  pub between : Between g r t cells plan
  pub known : Known plan p
  pub begun : Begun g r t plan p.piece.a.0 p.piece.c.0
  pub raised : Raised g r t plan p.piece.a.0 p.piece.c.0 p.piece.b.0 p.piece.d.0
  pub least : LeastTurn g r (meant p.piece) v

pub record Priced (g : Grid) (r : Rule) (p : Numbered) (t u : List ℕ) : Type 0 where
  pub long : length u ≡ length t
  pub made : get_or u p.entry 0 ≡ cost Pinwheel g r (meant p.piece)
  pub kept : (k : ℕ) → (k ≡ p.entry → ⊥) → get_or u k 0 ≡ get_or t k 0

pub record Lowerable (t cells : List ℕ) (plan : Plan) (p : Numbered) (v : ℕ) : Type 0 where
  pub grid : Grid
  pub rule : Rule
  pub here : AtPiece grid rule t cells plan p v

pub record Standable (t cells best : List ℕ) (plan : Plan) (a c b : ℕ) : Type 0 where
  pub grid : Grid
  pub rule : Rule
  pub here : Standing grid rule t cells best plan a c b (b + 3)
  pub ac : a < c
  pub cx : c ≤ plan.columns
  pub room : b + 3 ≤ plan.rows

pub record Weighed (t cells best : List ℕ) (plan : Plan) (a c : ℕ) : Type 0 where
  pub grid : Grid
  pub rule : Rule
  pub here : Standing grid rule t cells best plan a c plan.rows (plan.rows + 1)
  pub ac : a < c
  pub cx : c ≤ plan.columns

pub record Strippable (t cells : List ℕ) (plan : Plan) (a c : ℕ) : Type 0 where
  pub grid : Grid
  pub rule : Rule
  pub here : Lowering grid rule t cells plan a c
  pub ac : a < c
  pub cx : c ≤ plan.columns

pub record Beginnable (t cells : List ℕ) (plan : Plan) (a : ℕ) : Type 0 where
  pub grid : Grid
  pub rule : Rule
  pub here : Lowering grid rule t cells plan a (a + 3)
  pub room : a + 3 ≤ plan.columns

pub record Startable (t cells : List ℕ) (plan : Plan) : Type 0 where
  pub grid : Grid
  pub rule : Rule
  pub costed : Costed Straight grid rule t cells plan
  pub sized : Sized plan
