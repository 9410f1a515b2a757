-- To believe: the ten proved rows of docs/SCOPE.md, "Drawings to test on" (that of the 10 nm square as Item 4 has it), four with rings,
-- one of a tie, three of flecks, four by the default rule of Item 7, and five of two drawings that pinwheels cut best.
--
--   By                 == the rule that a row is for: one of threshold and weight, or any in range
--   Meant b t w        == the row is for the rule of threshold t and weight w
--   Rival              == a cut of the frame, and what its parts cost together
--   Row                == a drawing, its mode and rule, and the outcome: number, cost, sliver length, the list of shots, and cuts of the frame that
--                         the scope names
--   Says row r o       == what a row says of an outcome o by the rule r
--   Holds row          == for every rule that the row is for, and any buffers with room for 14,400 entries and 225 shots, that is the
--                         outcome
--   outline l          == the figure of one ring with the corners of the list l
--   entries_of_l, new_entries_of_l   == all entries of L's table by the rule of 25 nm and 40, and by that of 10 nm and 100, in the order of entries
--   bar, foot          == a bar that is kept whole though its halves would cost less; a block on a foot of 10 nm
--   L, B, framed, windowed   == the drawing of "The job program", the block with a nose, a frame with a window, the same with its window first
--   Z                  == two blocks that share a strip, of which only the order of lines says how it is cut
--   W1, W2             == two drawings that a pinwheel cuts best, by the first and by the second turn
--   rows, new_rows, wheel_rows    == the table, its rows by the rule of 10 nm and 100, and its rows of pinwheels
use Rattle.std.specs.Prelude.{ℕ, ◌*◌, ◌/◌, ◌≤◌, ◌≡◌, true, List, [], ◌∷◌, length, take}
use Rattle.sum.specs.Sum.{sum_of, All}
use Rattle.rule.specs.Rules.{in_range}
use Rattle.piece.specs.declared.Mode.{Mode}
use Rattle.piece.specs.declared.Mode.TheVariants.{Straight, Pinwheel}
use Rattle.piece.specs.Piece.{frame}
use Rattle.piece.specs.declared.Turn.TheVariants.{First, Second}
use Rattle.piece.specs.Cuts.{Cut, vertical, horizontal, wheel, parts, cost as cost_of}
use Rattle.rule.specs.declared.Rule.{Rule}
use Rattle.figure.specs.Figure.{Figure, figure}
use Rattle.outline.specs.Inside.{grid}
use Rattle.demands.specs.Promise.{Asked, rule_of, Outcome, outcome}

pub data By : Type 0 where
  only-by : ℕ → ℕ → By
  any : By

abbrev pub Meant : By → ℕ → ℕ → Type 0
Meant (only-by t₀ w₀) t w = (t ≡ t₀) × (w ≡ w₀)
Meant any t w = Unit {0}

pub record Rival : Type 0 where
  pub cut : Cut
  pub cost : ℕ

pub record Row : Type 0 where
  pub mode : Mode
  pub figure : Figure
  pub by : By
  pub number : ℕ
  pub cost : ℕ
  pub sliver : ℕ
  pub list : List ℕ
  pub rivals : List Rival

pub record Says (row : Row) (r : Rule) (o : Outcome) : Type 0 where
  pub number : o.number ≡ row.number
  pub cost : o.cost ≡ row.cost
  pub sliver : o.sliver ≡ row.sliver
  pub count : 4 * o.shots ≡ length row.list
  pub list : take (4 * o.shots) o.list ≡ row.list
  pub rivals : All (λ k. sum_of (cost_of row.mode (grid row.figure) r) (parts (frame (grid row.figure)) k.cut) ≡ k.cost) row.rivals

-- room is ample: 14,400 entries and 225 shots
abbrev pub Holds : Row → Type 0
Holds row =
    (ask : Asked) → ask.mode ≡ row.mode → ask.figure ≡ row.figure → Meant row.by ask.threshold ask.weight
    → in_range ask.threshold ask.weight ≡ true
    → 14400 ≤ length ask.table → 900 ≤ length ask.list
    → Says row (rule_of ask) (outcome ask)

-- a figure of one ring: the scope's outline
abbrev pub outline : List ℕ → Figure
outline l = figure l (length l / 2 ∷ [])

-- an accepted figure
abbrev good : Figure → ℕ → ℕ → ℕ → ℕ → List ℕ → List Rival → Row
good f t w c s l k = record { mode = Straight; figure = f; by = only-by t w; number = 0; cost = c; sliver = s; list = l; rivals = k }

-- the same in the pinwheel mode
abbrev wheeled : Figure → ℕ → ℕ → ℕ → ℕ → List ℕ → List Rival → Row
wheeled f t w c s l k = record { mode = Pinwheel; figure = f; by = only-by t w; number = 0; cost = c; sliver = s; list = l; rivals = k }

-- the drawing of "The job program"
abbrev pub L : Figure
L = outline (0 ∷ 0 ∷ 100 ∷ 0 ∷ 100 ∷ 20 ∷ 60 ∷ 20 ∷ 60 ∷ 80 ∷ 0 ∷ 80 ∷ [])

-- its nine pieces: x lines (0, 1), (0, 2), (1, 2) and for each the y lines in the same order
abbrev pub entries_of_l : List ℕ
entries_of_l = 3400 ∷ 1000 ∷ 1000 ∷ 6600 ∷ 5200 ∷ 1000 ∷ 4200 ∷ 4200 ∷ 0 ∷ []

-- by 10 nm no shot of L is a sliver: each piece costs its number of shots
abbrev pub new_entries_of_l : List ℕ
new_entries_of_l = 1000 ∷ 1000 ∷ 1000 ∷ 1000 ∷ 2000 ∷ 1000 ∷ 1000 ∷ 1000 ∷ 0 ∷ []

-- the block with a nose of 10 nm
abbrev pub B : Figure
B = outline (0 ∷ 0 ∷ 200 ∷ 0 ∷ 200 ∷ 50 ∷ 210 ∷ 50 ∷ 210 ∷ 150 ∷ 200 ∷ 150 ∷ 200 ∷ 200 ∷ 0 ∷ 200 ∷ [])

-- a frame of 100 nm with a window of 40 nm, and the same with its rings exchanged
abbrev pub framed : Figure
framed = figure (0 ∷ 0 ∷ 100 ∷ 0 ∷ 100 ∷ 100 ∷ 0 ∷ 100 ∷ 30 ∷ 30 ∷ 70 ∷ 30 ∷ 70 ∷ 70 ∷ 30 ∷ 70 ∷ []) (4 ∷ 4 ∷ [])

abbrev pub windowed : Figure
windowed = figure (30 ∷ 30 ∷ 70 ∷ 30 ∷ 70 ∷ 70 ∷ 30 ∷ 70 ∷ 0 ∷ 0 ∷ 100 ∷ 0 ∷ 100 ∷ 100 ∷ 0 ∷ 100 ∷ []) (4 ∷ 4 ∷ [])

-- blocks of 60 by 80 nm that share 10 nm of their widths: the cuts at x = 50 and at x = 60 cost the same, and those across cost more. By
-- the second the shots would be others
abbrev pub Z : Figure
Z = outline (0 ∷ 0 ∷ 60 ∷ 0 ∷ 60 ∷ 20 ∷ 110 ∷ 20 ∷ 110 ∷ 100 ∷ 50 ∷ 100 ∷ 50 ∷ 80 ∷ 0 ∷ 80 ∷ [])

-- a bar that is wholly inside, with the line x = 15 across it: kept whole, though its two halves would be squares that cost less
abbrev pub bar : Figure
bar = outline (15 ∷ 0 ∷ 0 ∷ 0 ∷ 0 ∷ 20 ∷ 15 ∷ 20 ∷ 15 ∷ 0 ∷ 30 ∷ 0 ∷ 30 ∷ 20 ∷ 15 ∷ 20 ∷ [])

-- a block on a foot of 10 nm, which is a square that is exposed over 20 nm upright and 10 nm level
abbrev pub foot : Figure
foot = outline (15 ∷ 0 ∷ 25 ∷ 0 ∷ 25 ∷ 10 ∷ 100 ∷ 10 ∷ 100 ∷ 60 ∷ 0 ∷ 60 ∷ 0 ∷ 10 ∷ 15 ∷ 10 ∷ [])

-- the line of y = 20 is the second y line of L
abbrev pub rows : List Row
rows =
    good L 25 40 5200 80 (0 ∷ 0 ∷ 60 ∷ 80 ∷ 60 ∷ 0 ∷ 100 ∷ 20 ∷ []) (record { cut = horizontal 1; cost = 7600 } ∷ [])
    ∷ good L 20 40 2000 0 (0 ∷ 0 ∷ 60 ∷ 80 ∷ 60 ∷ 0 ∷ 100 ∷ 20 ∷ []) (record { cut = vertical 1; cost = 2000 } ∷ record { cut = horizontal 1; cost = 2000 } ∷ [])
    ∷ good B 25 40 3000 0 (0 ∷ 0 ∷ 200 ∷ 50 ∷ 0 ∷ 50 ∷ 210 ∷ 150 ∷ 0 ∷ 150 ∷ 200 ∷ 200 ∷ []) []
    ∷ good B 25 10 3000 100 (0 ∷ 0 ∷ 200 ∷ 200 ∷ 200 ∷ 50 ∷ 210 ∷ 150 ∷ []) []
    ∷ good B 25 9 2900 100 (0 ∷ 0 ∷ 200 ∷ 200 ∷ 200 ∷ 50 ∷ 210 ∷ 150 ∷ []) []
    ∷ good (outline (0 ∷ 0 ∷ 100 ∷ 0 ∷ 100 ∷ 24 ∷ 0 ∷ 24 ∷ [])) 25 40 9000 200 (0 ∷ 0 ∷ 100 ∷ 24 ∷ []) []
    ∷ good (outline (0 ∷ 0 ∷ 100 ∷ 0 ∷ 100 ∷ 24 ∷ 0 ∷ 24 ∷ [])) 24 40 1000 0 (0 ∷ 0 ∷ 100 ∷ 24 ∷ []) []
    ∷ good (outline (0 ∷ 0 ∷ 10 ∷ 0 ∷ 10 ∷ 10 ∷ 0 ∷ 10 ∷ [])) 25 40 1800 20 (0 ∷ 0 ∷ 10 ∷ 10 ∷ []) []
    ∷ good (outline (0 ∷ 0 ∷ 10 ∷ 0 ∷ 10 ∷ 20 ∷ 0 ∷ 20 ∷ [])) 25 40 2600 40 (0 ∷ 0 ∷ 10 ∷ 20 ∷ []) []
    ∷ good bar 25 100 7000 60 (0 ∷ 0 ∷ 30 ∷ 20 ∷ []) (record { cut = vertical 1; cost = 6000 } ∷ [])
    ∷ good foot 25 40 2800 20 (15 ∷ 0 ∷ 25 ∷ 10 ∷ 0 ∷ 10 ∷ 100 ∷ 60 ∷ []) []
    ∷ good (outline (0 ∷ 0 ∷ 10 ∷ 0 ∷ 10 ∷ 20 ∷ 20 ∷ 20 ∷ 20 ∷ 10 ∷ 0 ∷ 10 ∷ [])) 0 40 2000 0 (0 ∷ 0 ∷ 10 ∷ 10 ∷ 10 ∷ 10 ∷ 20 ∷ 20 ∷ []) []
    ∷ good Z 25 40 3800 20 (0 ∷ 0 ∷ 50 ∷ 80 ∷ 50 ∷ 0 ∷ 60 ∷ 20 ∷ 50 ∷ 20 ∷ 110 ∷ 100 ∷ []) (record { cut = vertical 1; cost = 3800 } ∷ record { cut = vertical 2; cost = 3800 } ∷ record { cut = horizontal 1; cost = 5400 } ∷ record { cut = horizontal 2; cost = 5400 } ∷ [])
    ∷ good framed 25 40 4000 0 (0 ∷ 0 ∷ 30 ∷ 100 ∷ 30 ∷ 0 ∷ 70 ∷ 30 ∷ 30 ∷ 70 ∷ 70 ∷ 100 ∷ 70 ∷ 0 ∷ 100 ∷ 100 ∷ []) []
    ∷ good framed 40 40 21600 440 (0 ∷ 0 ∷ 30 ∷ 100 ∷ 30 ∷ 0 ∷ 70 ∷ 30 ∷ 30 ∷ 70 ∷ 70 ∷ 100 ∷ 70 ∷ 0 ∷ 100 ∷ 100 ∷ []) []
    ∷ good windowed 25 40 4000 0 (0 ∷ 0 ∷ 30 ∷ 100 ∷ 30 ∷ 0 ∷ 70 ∷ 30 ∷ 30 ∷ 70 ∷ 70 ∷ 100 ∷ 70 ∷ 0 ∷ 100 ∷ 100 ∷ []) []
    ∷ good (figure (0 ∷ 0 ∷ 10 ∷ 0 ∷ 10 ∷ 10 ∷ 0 ∷ 10 ∷ 10 ∷ 0 ∷ 20 ∷ 0 ∷ 20 ∷ 10 ∷ 10 ∷ 10 ∷ []) (4 ∷ 4 ∷ [])) 0 40 1000 0 (0 ∷ 0 ∷ 20 ∷ 10 ∷ []) []
    ∷ record {
      mode = Straight;
      figure = outline (0 ∷ 0 ∷ 1 ∷ 0 ∷ 1 ∷ 1 ∷ 0 ∷ 1 ∷ 0 ∷ 0 ∷ 1 ∷ 0 ∷ 1 ∷ 1 ∷ 0 ∷ 1 ∷ []);
      by = any;
      number = 5;
      cost = 0;
      sliver = 0;
      list = [];
      rivals = [];
    }
    ∷ []

-- Item 7: what the default rule makes of L, of B, and of bars of 24 and of 9 nm
abbrev pub new_rows : List Row
new_rows =
    good L 10 100 2000 0 (0 ∷ 0 ∷ 60 ∷ 80 ∷ 60 ∷ 0 ∷ 100 ∷ 20 ∷ []) []
    ∷ good B 10 100 2000 0 (0 ∷ 0 ∷ 200 ∷ 200 ∷ 200 ∷ 50 ∷ 210 ∷ 150 ∷ []) []
    ∷ good (outline (0 ∷ 0 ∷ 100 ∷ 0 ∷ 100 ∷ 24 ∷ 0 ∷ 24 ∷ [])) 10 100 1000 0 (0 ∷ 0 ∷ 100 ∷ 24 ∷ []) []
    ∷ good (outline (0 ∷ 0 ∷ 100 ∷ 0 ∷ 100 ∷ 9 ∷ 0 ∷ 9 ∷ [])) 10 100 21000 200 (0 ∷ 0 ∷ 100 ∷ 9 ∷ []) []
    ∷ []

-- one ring that touches itself, with five lines each way; the other is its mirror image
abbrev pub W2 : Figure
W2 = outline (100 ∷ 60 ∷ 40 ∷ 60 ∷ 40 ∷ 0 ∷ 110 ∷ 0 ∷ 110 ∷ 80 ∷ 100 ∷ 80 ∷ 100 ∷ 20 ∷ 70 ∷ 20 ∷ 70 ∷ 60 ∷ 10 ∷ 60 ∷ 10 ∷ 100 ∷ 100 ∷ 100 ∷ [])

abbrev pub W1 : Figure
W1 = outline (20 ∷ 60 ∷ 80 ∷ 60 ∷ 80 ∷ 0 ∷ 10 ∷ 0 ∷ 10 ∷ 80 ∷ 20 ∷ 80 ∷ 20 ∷ 20 ∷ 50 ∷ 20 ∷ 50 ∷ 60 ∷ 110 ∷ 60 ∷ 110 ∷ 100 ∷ 20 ∷ 100 ∷ [])

-- the third is a tie: straight cuts come before pinwheels
abbrev pub wheel_rows : List Row
wheel_rows =
    good W2 25 40 11200 180 (40 ∷ 0 ∷ 70 ∷ 60 ∷ 70 ∷ 0 ∷ 100 ∷ 20 ∷ 10 ∷ 60 ∷ 100 ∷ 100 ∷ 100 ∷ 0 ∷ 110 ∷ 80 ∷ []) []
    ∷ wheeled W2 25 40 10800 170 (40 ∷ 0 ∷ 70 ∷ 60 ∷ 70 ∷ 0 ∷ 110 ∷ 20 ∷ 10 ∷ 60 ∷ 100 ∷ 100 ∷ 100 ∷ 20 ∷ 110 ∷ 80 ∷ []) (record { cut = vertical 3; cost = 11200 } ∷ record { cut = wheel Second 2 3 1 2; cost = 10800 } ∷ [])
    ∷ wheeled W2 25 0 4000 210 (40 ∷ 0 ∷ 100 ∷ 20 ∷ 40 ∷ 20 ∷ 70 ∷ 60 ∷ 10 ∷ 60 ∷ 100 ∷ 100 ∷ 100 ∷ 0 ∷ 110 ∷ 80 ∷ []) (record { cut = wheel Second 2 3 1 2; cost = 4000 } ∷ [])
    ∷ good W1 25 40 11200 180 (10 ∷ 0 ∷ 20 ∷ 80 ∷ 20 ∷ 0 ∷ 50 ∷ 20 ∷ 50 ∷ 0 ∷ 80 ∷ 60 ∷ 20 ∷ 60 ∷ 110 ∷ 100 ∷ []) []
    ∷ wheeled W1 25 40 10800 170 (10 ∷ 0 ∷ 50 ∷ 20 ∷ 50 ∷ 0 ∷ 80 ∷ 60 ∷ 10 ∷ 20 ∷ 20 ∷ 80 ∷ 20 ∷ 60 ∷ 110 ∷ 100 ∷ []) (record { cut = wheel First 1 2 1 2; cost = 10800 } ∷ [])
    ∷ []
