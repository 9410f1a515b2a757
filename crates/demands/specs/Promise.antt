-- To believe: what a fracture promises, its answer and both lent buffers, for every input.
--
-- What is asked
--   Asked                      == all that a fracture is asked: by straight cuts alone or by pinwheels too, a figure, threshold and weight, and
--                                 the two buffers that it is lent
--   asked mode corners lengths t w table list
--                              == the same, as the calls are handed it
--   drawn ask, rule_of ask      == the grid of its figure, and its rule
-- The shots of a grid g under a rule r in a mode
--   frame_shots mode g r        == the shots of the frame, in list order
--   frame_cost, frame_sliver mode g r
--                              == their charges together, in thousandths of a shot; their sliver lengths together, in nm
--   frame_numbers mode g r      == their numbers: x low, y low, x high, y high of each
-- The outcome, stage by stage
--   Outcome                    == the number of the refusal, 0 on success; the four values beside it; what both buffers hold then
--   written front old          == a buffer that held old, with front written at its front, and everything beyond as it came in
--   refused n table list       == a refusal by the number n: zeros beside it, and nothing changed
--   delivered mode g r table list
--                              == of a table that is filled: 7, which gives the shots needed and leaves the list, or the shots
--   gridded mode g r table list
--                              == of a grid: 6, or the table filled, and what is delivered then
--   ruled mode f r table list  == of a figure, by a rule in range: its own refusal, or what its grid gives
--   outcome ask                == 1, or what the figure gives by that rule
use Rattle.std.specs.Prelude.{ℕ, ◌*◌, cond, List, ◌++◌, ltb, eqb, length, drop}
use Rattle.sum.specs.Sum.{sum_of}
use Rattle.refusal.specs.declared.Refusal.TheVariants as because
use Rattle.refusal.specs.Refusals.{refusal_no}
use Rattle.rule.specs.declared.Rule.{Rule}
use Rattle.rule.specs.Rules.{in_range}
use Rattle.figure.specs.Figure.{Figure, figure}
use Rattle.outline.specs.Grid.{Grid}
use Rattle.outline.specs.Inside.{grid}
use Rattle.outline.specs.Promise.{refusal}
use Rattle.piece.specs.declared.Mode.{Mode}
use Rattle.piece.specs.Piece.{Piece, frame, sliver, charge}
use Rattle.piece.specs.Cuts.{shots, numbers_of}
use Rattle.table.specs.Entry.{entry_count, costs}
use Rattle.demands.specs.Cuts.{weighed_cuts}

pub record Asked : Type 0 where
  pub mode : Mode
  pub figure : Figure
  pub threshold : ℕ
  pub weight : ℕ
  pub table : List ℕ
  pub list : List ℕ

abbrev pub asked : Mode → List ℕ → List ℕ → ℕ → ℕ → List ℕ → List ℕ → Asked
asked mode corners lengths t w table list = record { mode = mode; figure = figure corners lengths; threshold = t; weight = w; table = table; list = list }

unfoldable pub drawn : Asked → Grid
drawn ask = grid ask.figure

abbrev pub rule_of : Asked → Rule
rule_of ask = record { threshold = ask.threshold; weight = ask.weight }

module _ (mode : Mode) (g : Grid) (r : Rule) where
  unfoldable pub frame_shots : List Piece
  frame_shots = shots mode g r (frame g)

  unfoldable pub frame_cost : ℕ
  frame_cost = sum_of (charge g r) frame_shots

  unfoldable pub frame_sliver : ℕ
  frame_sliver = sum_of (sliver g r) frame_shots

  unfoldable pub frame_numbers : List ℕ
  frame_numbers = numbers_of g frame_shots

pub record Outcome : Type 0 where
  pub number : ℕ
  pub shots : ℕ
  pub cost : ℕ
  pub sliver : ℕ
  pub cuts : ℕ
  pub table : List ℕ
  pub list : List ℕ

unfoldable pub written : List ℕ → List ℕ → List ℕ
written front old = front ++ drop (length front) old

unfoldable pub refused : ℕ → List ℕ → List ℕ → Outcome
refused n table list = record { number = n; shots = 0; cost = 0; sliver = 0; cuts = 0; table = table; list = list }

unfoldable pub delivered : Mode → Grid → Rule → List ℕ → List ℕ → Outcome
delivered mode g r table list =
    cond (ltb (length list) (4 * length (frame_shots mode g r)))
    (record {
      number = refusal_no because.List;
      shots = length (frame_shots mode g r);
      cost = 0;
      sliver = 0;
      cuts = 0;
      table = table;
      list = list;
    })
    (record {
      number = 0;
      shots = length (frame_shots mode g r);
      cost = frame_cost mode g r;
      sliver = frame_sliver mode g r;
      cuts = weighed_cuts g;
      table = table;
      list = written (frame_numbers mode g r) list;
    })

unfoldable pub gridded : Mode → Grid → Rule → List ℕ → List ℕ → Outcome
gridded mode g r table list =
    cond (ltb (length table) (entry_count g.columns g.rows))
    (refused (refusal_no because.Table) table list)
    (delivered mode g r (written (costs mode g r) table) list)

unfoldable pub ruled : Mode → Figure → Rule → List ℕ → List ℕ → Outcome
ruled mode f r table list =
    cond (eqb (refusal f) 0) (gridded mode (grid f) r table list) (refused (refusal f) table list)

unfoldable pub outcome : Asked → Outcome
outcome ask =
    cond (in_range ask.threshold ask.weight)
    (ruled ask.mode ask.figure (rule_of ask) ask.table ask.list)
    (refused (refusal_no because.Rule) ask.table ask.list)
