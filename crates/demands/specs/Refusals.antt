-- To believe: when a fracture is refused: the scope's conditions 1 to 7, said of the input alone.
--
--   Changes a e        == the edge e changes the coordinate along the axis a
--   Keeps a e          == it does not
--   Condition c        == what the scope says of the refusal c; no fracture is refused for any but the first seven
--   First c            == the condition of c holds, and none of a lower number does
use Rattle.std.specs.Prelude.{ℕ, ◌*◌, ◌<◌, ◌≡◌, ◌⊎◌, false, length}
use mathlib.Core.List.{Memᴰ as Member}
use Rattle.refusal.specs.declared.Refusal.{Refusal}
use Rattle.refusal.specs.declared.Refusal.TheVariants as because
use Rattle.refusal.specs.Refusals.{refusal_no}
use Rattle.rule.specs.Rules.{limit}
use Rattle.figure.specs.declared.Axis.{Axis}
use Rattle.figure.specs.declared.Axis.TheVariants.{X, Y}
use Rattle.figure.specs.Corners.{Corner, Link, Turn, into, onward, coordinate}
use Rattle.figure.specs.Figure.{BadLengths, edges_of, turns_of}
use Rattle.table.specs.Entry.{entry_count}
use Rattle.demands.specs.Promise.{Asked, drawn, rule_of, frame_shots}

abbrev pub Keeps : Axis → Link Corner → Type 0
Keeps a e = coordinate a e.from ≡ coordinate a e.to

abbrev pub Changes : Axis → Link Corner → Type 0
Changes a e = Keeps a e → ⊥

module _ (ask : Asked) where
  unfoldable pub Condition : Refusal → Type 0
  -- threshold or weight above 1,000
  Condition because.Rule = (limit < ask.threshold) ⊎ (limit < ask.weight)
  -- a bad ring count, ring length or total
  Condition because.Length = BadLengths ask.figure
  -- an edge changes both coordinates
  Condition because.Slanted = (e : Link Corner) × Member e (edges_of ask.figure) × Changes X e × Changes Y e
  -- an edge changes neither, or two neighbours of a ring change the same one
  Condition because.Unturned =
      ((e : Link Corner) × Member e (edges_of ask.figure) × Keeps X e × Keeps Y e)
      ⊎ ((t : Turn) × Member t (turns_of ask.figure)
      × ((Changes X (into t) × Changes X (onward t)) ⊎ (Changes Y (into t) × Changes Y (onward t))))
  -- no cell is inside
  Condition because.Empty = (i j : ℕ) → i < (drawn ask).columns → j < (drawn ask).rows → (drawn ask).inside i j ≡ false
  -- cost table has fewer entries than there are pieces
  Condition because.Table = length ask.table < entry_count (drawn ask).columns (drawn ask).rows
  -- shot list holds fewer than 4 x shots numbers
  Condition because.List = length ask.list < 4 * length (frame_shots ask.mode (drawn ask) (rule_of ask))
  -- the others are for bytes, buffers, presets and elements
  Condition because.Ends = ⊥
  Condition because.Padded = ⊥
  Condition because.Range = ⊥
  Condition because.Extra = ⊥
  Condition because.Long = ⊥
  Condition because.Missing = ⊥
  Condition because.Room = ⊥
  Condition because.Preset = ⊥
  Condition because.Record = ⊥
  Condition because.Unclosed = ⊥
  Condition because.Extent = ⊥
  Condition because.Largest = ⊥
  Condition because.Full = ⊥
  Condition because.Shots = ⊥
  Condition because.Text = ⊥
  Condition because.Edge = ⊥

  pub record First (c : Refusal) : Type 0 where
    pub holds : Condition c
    pub before : (s : Refusal) → refusal_no s < refusal_no c → Condition s → ⊥
