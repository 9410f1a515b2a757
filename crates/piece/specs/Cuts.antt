-- To believe: the fracture of a grid by straight cuts (docs/SCOPE.md, "Pieces, slivers, cost"; the paper's equation (2)), and by pinwheels too
-- ("Pinwheels"; the paper's equation (3)). The mode says which.
--
--   turns            == the two turns of a pinwheel in their order: the first and the second term of equation (3)
--   Cut              == a vertical cut lies on an x line, a horizontal one on a y line; it runs across the whole piece. A pinwheel has its
--                       turn, its x lines j < l and its y lines k < m
--   run k n          == the n numbers from k up
--   between a c      == the lines strictly between two lines, from low to high
--   straight_cuts p   == the straight cuts of a piece: vertical before horizontal, the lower line before the higher
--   wheels t p       == its pinwheels of one turn: the lowest j first, then the lowest l, then k, then m
--   cuts mode p      == the cuts of a piece in the tie order: straight cuts, and in the pinwheel mode pinwheels after them
--   parts p k        == the parts of a cut in list order: the low part, then the high part, left or bottom being low; of a pinwheel the four
--                       arms and the inner piece, as equation (3) has them, its b and d being the low and the high y line
--   Inner p j l k m  == the lines of a pinwheel of p: two strictly between the ends in each direction
--   CutOf mode p k   == the cut k is one of p's in that mode: its lines lie strictly between the ends
--   scheme mode g r  == the cuts of the grid g under the rule r, as a scheme
--   shots mode g r p == the shots of the piece p, in list order
--   cost mode g r p  == their charges together
--   choice mode g r p == the first cut of p whose parts cost what p costs
--   Then i j R       == i is below j, or they are equal and R holds
--   Lower j l k m .. == of two pinwheels of one turn the lower: by j, then l, then k, then m
--   Before i k       == the cut i comes before the cut k in the tie order, in the scope's words: vertical before horizontal, the lower line
--                       before the higher, straight cuts before pinwheels, the first turn before the second
--   numbers_of g l    == the four numbers of each shot of l
use Rattle.std.specs.Prelude.{ℕ, zero, suc, ◌-◌, ◌<◌, ◌≡◌, ◌⊎◌, List, [], ◌∷◌, ◌++◌, map}
use Rattle.sum.specs.Sum.{sum_of, join}
use Rattle.recurrence.specs.Choice.{first}
use Rattle.recurrence.specs.Scheme.{Scheme, shots_by}
use Rattle.outline.specs.Grid.{Grid}
use Rattle.rule.specs.declared.Rule.{Rule}
use Rattle.shot.specs.Shot.{numbers}
use Rattle.piece.specs.declared.Mode.{Mode}
use Rattle.piece.specs.declared.Mode.TheVariants.{Straight, Pinwheel}
use Rattle.piece.specs.declared.Turn.{Turn}
use Rattle.piece.specs.declared.Turn.TheVariants.{First, Second}
use Rattle.piece.specs.Piece.{Piece, box, rectangle, cells, kind, charge, left_part, right_part, lower_part, upper_part}

unfoldable pub turns : List Turn
turns = First ∷ Second ∷ []

pub data Cut : Type 0 where
  vertical horizontal : ℕ → Cut
  wheel : Turn → ℕ → ℕ → ℕ → ℕ → Cut

unfoldable pub run : ℕ → ℕ → List ℕ
run k zero = []
run k (suc n) = k ∷ run (suc k) n

unfoldable pub between : ℕ → ℕ → List ℕ
between a c = run (suc a) (c - suc a)

unfoldable pub straight_cuts : Piece → List Cut
straight_cuts p = map vertical (between p.a p.c) ++ map horizontal (between p.b p.d)

unfoldable pub wheels : Turn → Piece → List Cut
wheels t p =
    join (λ j. join (λ l. join (λ k. map (λ m. wheel t j l k m) (between k p.d)) (between p.b p.d)) (between j p.c))
    (between p.a p.c)

unfoldable pub cuts : Mode → Piece → List Cut
cuts Straight p = straight_cuts p
cuts Pinwheel p = straight_cuts p ++ join (λ t. wheels t p) turns

unfoldable pub parts : Piece → Cut → List Piece
parts p (vertical j) = left_part p j ∷ right_part p j ∷ []
parts p (horizontal j) = lower_part p j ∷ upper_part p j ∷ []
parts p (wheel First j l k m) =
    box p.a l p.b k ∷ box l p.c p.b m ∷ box p.a j k p.d ∷ box j p.c m p.d ∷ box j l k m ∷ []
parts p (wheel Second j l k m) =
    box p.a j p.b m ∷ box j p.c p.b k ∷ box p.a l m p.d ∷ box l p.c k p.d ∷ box j l k m ∷ []

pub record Inner (p : Piece) (j l k m : ℕ) : Type 0 where
  pub aj : p.a < j
  pub jl : j < l
  pub lc : l < p.c
  pub bk : p.b < k
  pub km : k < m
  pub md : m < p.d

abbrev pub CutOf : Mode → Piece → Cut → Type 0
CutOf mode p (vertical j) = (p.a < j) × (j < p.c)
CutOf mode p (horizontal j) = (p.b < j) × (j < p.d)
CutOf mode p (wheel t j l k m) = (mode ≡ Pinwheel) × Inner p j l k m

module _ (mode : Mode) (g : Grid) (r : Rule) where
  abbrev pub scheme : Scheme Piece Cut
  scheme = record { kind = kind g; charge = charge g r; cuts = cuts mode; parts = parts }

  -- from the piece down; the fuel exceeds the depth of cuts
  unfoldable pub shots : Piece → List Piece
  shots p = shots_by scheme (suc (cells p)) p

  unfoldable pub cost : Piece → ℕ
  cost p = sum_of (charge g r) (shots p)

  -- a mixed piece has such a cut; vertical 0 stands in for the others
  unfoldable pub choice : Piece → Cut
  choice p = first (λ k. sum_of cost (parts p k)) (cost p) (vertical 0) (cuts mode p)

-- by the first line, and where that is the same by what follows
abbrev pub Then : ℕ → ℕ → Type 0 → Type 0
Then i j R = (i < j) ⊎ ((i ≡ j) × R)

abbrev pub Lower : ℕ → ℕ → ℕ → ℕ → ℕ → ℕ → ℕ → ℕ → Type 0
Lower j l k m j' l' k' m' = Then j j' (Then l l' (Then k k' (m < m')))

abbrev pub Before : Cut → Cut → Type 0
Before (vertical i) (vertical j) = i < j
Before (vertical i) (horizontal j) = Unit {0}
Before (vertical i) (wheel t j l k m) = Unit {0}
Before (horizontal i) (vertical j) = ⊥
Before (horizontal i) (horizontal j) = i < j
Before (horizontal i) (wheel t j l k m) = Unit {0}
Before (wheel t j l k m) (vertical i) = ⊥
Before (wheel t j l k m) (horizontal i) = ⊥
Before (wheel First j l k m) (wheel First j' l' k' m') = Lower j l k m j' l' k' m'
Before (wheel First j l k m) (wheel Second j' l' k' m') = Unit {0}
Before (wheel Second j l k m) (wheel First j' l' k' m') = ⊥
Before (wheel Second j l k m) (wheel Second j' l' k' m') = Lower j l k m j' l' k' m'

unfoldable pub numbers_of : Grid → List Piece → List ℕ
numbers_of g l = numbers (map (rectangle g) l)
