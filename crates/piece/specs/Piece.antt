-- To believe: pieces of a grid: their kind, their exposed sides, and what they are charged as a shot (docs/SCOPE.md, "Pieces, slivers, cost").
--
-- Pieces
--   Piece                     == between the x lines a < c and the y lines b < d
--   box a c b d               == the piece of these four lines
--   left_part, right_part p j   == the two parts of p at the x line j
--   lower_part, upper_part p j  == the two parts of p at the y line j
--   frame g                   == from the lowest lines to the highest
--   holds i j p               == whether the cell (i, j) is one of p's
--   rectangle g p             == the four numbers of the piece p of the grid g, in nm
-- Kinds
--   cell_sum f p               == the sum of f i j over p's cells (i, j)
--   cells p, inside_cells g p  == how many cells p has, and how many of them are inside
--   kind_of n m                == the kind of a piece with n inside cells of m: outside, full or mixed
--   kind g p                  == the kind of p
-- Exposed sides, in nm: the cell within is inside and the cell across is not, or there is none
--   low_side f k, high_side f k == along one row or column, f k being that the cell k is inside: whether the low side of the cell k,
--                                and whether the high side of the cell before the line k, is exposed
--   left, right, bottom, top  == the exposed length of each side of a piece
-- The charge, in thousandths of a shot
--   width, height             == from line to line, in nm
--   sliver g r p              == p's sliver length under the rule r (rule/specs/Charge.antt)
--   charge g r p              == its charge as a shot: equation (1) of the paper, times 1,000
--   most_cost                  == the scope's bound: no total exceeds it
use Rattle.std.specs.Prelude.{ℕ, zero, suc, ◌+◌, ◌-◌, Bool, true, false, not, ◌&&◌, leb, ltb, eqb}
use Rattle.sum.specs.Sum.{over, only}
use Rattle.recurrence.specs.Scheme.{Kind, outside, full, mixed}
use Rattle.outline.specs.Grid.{Grid}
use Rattle.rule.specs.declared.Rule.{Rule}
use Rattle.rule.specs.Charge.{sliver_of, charge_of}
use Rattle.shot.specs.Shot.{Shot}

pub record Piece : Type 0 where
  pub a : ℕ
  pub c : ℕ
  pub b : ℕ
  pub d : ℕ

abbrev pub box : ℕ → ℕ → ℕ → ℕ → Piece
box a c b d = record { a = a; c = c; b = b; d = d }

abbrev pub left_part : Piece → ℕ → Piece
left_part p j = box p.a j p.b p.d

abbrev pub right_part : Piece → ℕ → Piece
right_part p j = box j p.c p.b p.d

abbrev pub lower_part : Piece → ℕ → Piece
lower_part p j = box p.a p.c p.b j

abbrev pub upper_part : Piece → ℕ → Piece
upper_part p j = box p.a p.c j p.d

unfoldable pub holds : ℕ → ℕ → Piece → Bool
holds i j p = (leb p.a i && ltb i p.c) && (leb p.b j && ltb j p.d)

unfoldable pub cell_sum : (ℕ → ℕ → ℕ) → Piece → ℕ
cell_sum f p = over p.a p.c (λ i. over p.b p.d (f i))

unfoldable pub cells : Piece → ℕ
cells p = cell_sum (λ i j. 1) p

unfoldable pub kind_of : ℕ → ℕ → Kind
kind_of n m = elim (eqb n 0) [ true ↦ outside | false ↦ elim (eqb n m) [ true ↦ full | false ↦ mixed ] ]

-- whether the cell before the line k is inside; before the first line there is none
abbrev pub before : (ℕ → Bool) → ℕ → Bool
before f zero = false
before f (suc k) = f k

unfoldable pub low_side : (ℕ → Bool) → ℕ → Bool
low_side f k = f k && not (before f k)

unfoldable pub high_side : (ℕ → Bool) → ℕ → Bool
high_side f k = before f k && not (f k)

module _ (g : Grid) where
  unfoldable pub frame : Piece
  frame = box 0 g.columns 0 g.rows

  abbrev pub rectangle : Piece → Shot
  rectangle p = record { xlow = g.x p.a; ylow = g.y p.b; xhigh = g.x p.c; yhigh = g.y p.d }

  unfoldable pub inside_cells : Piece → ℕ
  inside_cells p = cell_sum (λ i j. only (g.inside i j) 1) p

  unfoldable pub kind : Piece → Kind
  kind p = kind_of (inside_cells p) (cells p)

  unfoldable pub width : ℕ → ℕ → ℕ
  width a c = g.x c - g.x a

  unfoldable pub height : ℕ → ℕ → ℕ
  height b d = g.y d - g.y b

  unfoldable pub left : Piece → ℕ
  left p = over p.b p.d (λ j. only (low_side (λ i. g.inside i j) p.a) (height j (suc j)))

  unfoldable pub right : Piece → ℕ
  right p = over p.b p.d (λ j. only (high_side (λ i. g.inside i j) p.c) (height j (suc j)))

  unfoldable pub bottom : Piece → ℕ
  bottom p = over p.a p.c (λ i. only (low_side (g.inside i) p.b) (width i (suc i)))

  unfoldable pub top : Piece → ℕ
  top p = over p.a p.c (λ i. only (high_side (g.inside i) p.d) (width i (suc i)))

  module _ (r : Rule) where
    unfoldable pub sliver : Piece → ℕ
    sliver p = sliver_of r (width p.a p.c) (height p.b p.d) (left p + right p) (bottom p + top p)

    unfoldable pub charge : Piece → ℕ
    charge p = charge_of r (sliver p)

abbrev pub most_cost : ℕ
most_cost = 2097345000
