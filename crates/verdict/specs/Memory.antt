-- Inner: what lies in memory when the pieces are judged (nobody has to believe these).
--
--   Costed mode g r table cells plan
--                                 == the table begins with the cost of every piece of the grid g under the rule r in that mode, cells are
--                                    g's cells, and plan has its size
--   Known plan p                  == p is one of the pieces of a grid of that size, and has its own entry
--   Judgeable mode table cells plan p
--                                 == there are such a grid and such a rule, and p is one of the grid's pieces with its entry
--   Sortable table cells p        == the same, by some plan and in some mode
--   Choosable table plan p        == the same, for some cells and in some mode
--   Cuttable table plan p         == the same by straight cuts, for some cells, and p is mixed
use Rattle.std.specs.Prelude.{ℕ, ◌+◌, ◌*◌, ◌≤◌, ◌<◌, ◌≡◌, List, length, get_or}
use Rattle.sum.specs.Sum.{only}
use Rattle.recurrence.specs.Scheme.{mixed}
use Rattle.outline.specs.Grid.{Grid, Sound}
use Rattle.rule.specs.declared.Rule.{Rule}
use Rattle.rule.specs.Rules.{limit}
use Rattle.piece.specs.declared.Mode.{Mode}
use Rattle.piece.specs.declared.Mode.TheVariants.{Straight}
use Rattle.piece.specs.Piece.{Piece, kind}
use Rattle.piece.specs.Meant.{meant}
use Rattle.piece.specs.Cuts.{cost}
use Rattle.table.specs.Entry.{Valid, pair_count, entry_of, entry_count}
use Rattle.verdict.specs.declared.Plan.{Plan}
use Rattle.verdict.specs.declared.Numbered.{Numbered}

pub record Costed (mode : Mode) (g : Grid) (r : Rule) (table cells : List ℕ) (plan : Plan) : Type 0 where
  pub sound : Sound g
  pub weight : r.weight ≤ limit
  pub columns : plan.columns ≡ g.columns
  pub rows : plan.rows ≡ g.rows
  pub pairs : plan.pairs ≡ pair_count plan.rows
  pub cells-length : length cells ≡ 256
  pub cell-at : (i j : ℕ) → i < 16 → j < 16 → get_or cells (16 * i + j) 0 ≡ only (g.inside i j) 1
  pub entries : entry_count plan.columns plan.rows ≤ length table
  pub cost-at : (p : Piece) → Valid plan.columns plan.rows p → get_or table (entry_of plan.columns plan.rows p) 0 ≡ cost mode g r p

pub record Known (plan : Plan) (p : Numbered) : Type 0 where
  pub valid : Valid plan.columns plan.rows (meant p.piece)
  pub entry : p.entry ≡ entry_of plan.columns plan.rows (meant p.piece)

pub record Judgeable (mode : Mode) (table cells : List ℕ) (plan : Plan) (p : Numbered) : Type 0 where
  pub grid : Grid
  pub rule : Rule
  pub costed : Costed mode grid rule table cells plan
  pub known : Known plan p

pub record Sortable (table cells : List ℕ) (p : Numbered) : Type 0 where
  pub mode : Mode
  pub plan : Plan
  pub judgeable : Judgeable mode table cells plan p

pub record Choosable (table : List ℕ) (plan : Plan) (p : Numbered) : Type 0 where
  pub mode : Mode
  pub cells : List ℕ
  pub judgeable : Judgeable mode table cells plan p

pub record Cuttable (table : List ℕ) (plan : Plan) (p : Numbered) : Type 0 where
  pub cells : List ℕ
  pub judgeable : Judgeable Straight table cells plan p
  pub mixed : kind judgeable.grid (meant p.piece) ≡ mixed
