-- To believe: what the demands speak of, beside the outcome.
--
--   Words f            == the corners of a figure are given by 16-bit numbers
--   PieceOf g p        == p is a piece of the grid g
--   reported o         == the shots in the list of an outcome: its first 4 x shots numbers, four by four
--   entry o g p        == what the table of an outcome has for the piece p
--   pair_at n i j       == the number of the pair of lines i < j, of the lines 0 to n, in the order (0, 1), (0, 2), .., (1, 2), ..
--   answer o           == the answer of an outcome, without the buffers
--   Filled o           == the table was filled: on success, and beside 7
--   parts_cost E p k    == what the parts of the cut k of p have together in a table E
--   Chosen mode g r E p k
--                      == the shots of p are those of the parts of its cut k, which cost what p costs by the table E; no cut of p costs
--                         less, and each cut before k in the tie order costs more (CutOf, Before: piece/specs/Cuts.antt)
--   Recurrence mode g r E p
--                      == the paper's equation (2), in the pinwheel mode (2) and (3), at the piece p of the grid g, for a table of costs E,
--                         with the scope's tie order and order of the list: 0 and no shot outside; the charge and the piece itself where full; else a cut is chosen
use Rattle.std.specs.Prelude.{ℕ, ◌+◌, ◌*◌, ◌-◌, ◌/◌, ◌≤◌, ◌<◌, ◌≡◌, ◌⊎◌, List, [], ◌∷◌, take, get_or}
use Rattle.sum.specs.Sum.{All, sum_of, join}
use Rattle.recurrence.specs.Scheme.{outside, full, mixed}
use Rattle.refusal.specs.declared.Refusal.TheVariants as because
use Rattle.refusal.specs.Refusals.{refusal_no}
use Rattle.rule.specs.declared.Rule.{Rule}
use Rattle.figure.specs.Figure.{Figure, most_place}
use Rattle.outline.specs.Grid.{Grid}
use Rattle.shot.specs.Shot.{Shot, shots_in}
use Rattle.piece.specs.declared.Mode.{Mode}
use Rattle.piece.specs.Piece.{Piece, kind, charge}
use Rattle.piece.specs.Cuts.{Cut, parts, CutOf, Before, shots}
use Rattle.table.specs.Entry.{entry_of, Valid}
use Rattle.demands.specs.Promise.{Outcome}

abbrev pub Words : Figure → Type 0
Words f = All (λ v. v ≤ most_place) f.numbers

abbrev pub PieceOf : Grid → Piece → Type 0
PieceOf g p = Valid g.columns g.rows p

unfoldable pub reported : Outcome → List Shot
reported o = shots_in (take (4 * o.shots) o.list)

unfoldable pub entry : Outcome → Grid → Piece → ℕ
entry o g p = get_or o.table (entry_of g.columns g.rows p) 0

abbrev pub pair_at : ℕ → ℕ → ℕ → ℕ
pair_at n i j = (i * (2 * n + 1 - i)) / 2 + (j - i - 1)

unfoldable pub answer : Outcome → Outcome
answer o = record { number = o.number; shots = o.shots; cost = o.cost; sliver = o.sliver; cuts = o.cuts; table = []; list = [] }

abbrev pub Filled : Outcome → Type 0
Filled o = (o.number ≡ 0) ⊎ (o.number ≡ refusal_no because.List)

unfoldable pub parts_cost : (Piece → ℕ) → Piece → Cut → ℕ
parts_cost E p k = sum_of E (parts p k)

pub record Chosen (mode : Mode) (g : Grid) (r : Rule) (E : Piece → ℕ) (p : Piece) (k : Cut) : Type 0 where
  pub lies : CutOf mode p k
  pub shots_of : shots mode g r p ≡ join (shots mode g r) (parts p k)
  pub cost_of : E p ≡ parts_cost E p k
  pub no_less : (i : Cut) → CutOf mode p i → E p ≤ parts_cost E p i
  pub earlier_dearer : (i : Cut) → CutOf mode p i → Before i k → E p < parts_cost E p i

pub record Recurrence (mode : Mode) (g : Grid) (r : Rule) (E : Piece → ℕ) (p : Piece) : Type 0 where
  pub outside : kind g p ≡ outside → (E p ≡ 0) × (shots mode g r p ≡ [])
  pub full : kind g p ≡ full → (E p ≡ charge g r p) × (shots mode g r p ≡ p ∷ [])
  pub mixed : kind g p ≡ mixed → (k : Cut) × Chosen mode g r E p k
