-- To believe: the cuts of a piece, and which of them is made (docs/SCOPE.md, "The cost of a drawing" and "Ties").
--
--   low_of p cut, high_of p cut  == the two parts of the piece p at a cut
--   CutOf p cut                  == the cut lies within p, right across it
--   Before one other             == one cut comes before another: x lines before y lines, the lower line first
--   CheapestOf Tried weigh found == found is the one of the cuts tried that weighs least, and of equals the first; none where none is tried
--   Cheapest weigh p found       == found is the cut of p that weighs least, and of equals the first; none where p has no cut
--   entry_found columns rows p   == the entry of the piece p, where it is one of a grid of so many columns and rows
--   cost_found columns rows t p  == what the table t has for it, else 0
--   weight_of columns rows t p   == what the two parts of a cut of p cost together
--   cell_at cells i j            == whether the cell (i, j) is inside
--   side_no side                 == the number of a side in the runs of an edge (edge/specs/Landing.antt)
--   LineAt lines at n            == n is the first line that is not below a place; past the last where none is
use Rattle.std.specs.Prelude.{ℕ, ◌+◌, ◌*◌, ◌≤◌, ◌<◌, List, length, get_or, Bool, cond, ◌&&◌, leb, ltb, eqb, Option, None, Some}
use Rattle.piece.specs.Piece.{box}
use Rattle.table.specs.Entry.{entry_of}
use Rattle.cutting.specs.declared.Piece.{Piece}
use Rattle.cutting.specs.declared.Cut.{Cut}
use Rattle.cutting.specs.declared.Cut.TheVariants.{Upright, Level}
use Rattle.cutting.specs.declared.sides.Side.{Side}
use Rattle.cutting.specs.declared.sides.Side.TheVariants as side

abbrev pub low_of : Piece → Cut → Piece
low_of p (Upright x) = record { a = p.a; c = x; b = p.b; d = p.d }
low_of p (Level y) = record { a = p.a; c = p.c; b = p.b; d = y }

abbrev pub high_of : Piece → Cut → Piece
high_of p (Upright x) = record { a = x; c = p.c; b = p.b; d = p.d }
high_of p (Level y) = record { a = p.a; c = p.c; b = y; d = p.d }

abbrev pub CutOf : Piece → Cut → Type 0
CutOf p (Upright x) = (p.a < x) × (x < p.c)
CutOf p (Level y) = (p.b < y) × (y < p.d)

abbrev pub Before : Cut → Cut → Type 0
Before (Upright x) (Upright z) = x < z
Before (Upright x) (Level y) = Unit
Before (Level y) (Upright x) = ⊥
Before (Level y) (Level z) = y < z

-- of the cuts that Tried names
abbrev pub CheapestOf : (Cut → Type 0) → (Cut → ℕ) → Option Cut → Type 0
CheapestOf Tried weigh None = (cut : Cut) → Tried cut → ⊥
CheapestOf Tried weigh (Some best) = Tried best × ((cut : Cut) → Tried cut → weigh best ≤ weigh cut) × ((cut : Cut) → Tried cut → Before cut best → weigh best < weigh cut)

abbrev pub Cheapest : (Cut → ℕ) → Piece → Option Cut → Type 0
Cheapest weigh p found = CheapestOf (CutOf p) weigh found

unfoldable pub entry_found : ℕ → ℕ → Piece → Option ℕ
entry_found columns rows p = cond (leb columns 15 && (leb rows 15 && (ltb p.a p.c && (leb p.c columns && (ltb p.b p.d && leb p.d rows))))) (Some (entry_of columns rows (box p.a p.c p.b p.d))) None

abbrev pub cost_at : List ℕ → Option ℕ → ℕ
cost_at table None = 0
cost_at table (Some at) = get_or table at 0

unfoldable pub cost_found : ℕ → ℕ → List ℕ → Piece → ℕ
cost_found columns rows table p = cost_at table (entry_found columns rows p)

unfoldable pub weight_of : ℕ → ℕ → List ℕ → Piece → Cut → ℕ
weight_of columns rows table p cut = cost_found columns rows table (low_of p cut) + cost_found columns rows table (high_of p cut)

unfoldable pub cell_at : List ℕ → ℕ → ℕ → Bool
cell_at cells i j = ltb i 16 && (ltb j 16 && eqb (get_or cells (16 * i + j) 0) 1)

unfoldable pub LineAt : List ℕ → ℕ → ℕ → Type 0
LineAt lines at n = ((k : ℕ) → k < n → get_or lines k 0 < at) × ((n < length lines → at ≤ get_or lines n 0) × (n ≤ length lines))

abbrev pub side_no : Side → ℕ
side_no side.Left = 1
side_no side.Right = 2
side_no side.Bottom = 3
side_no side.Top = 4
