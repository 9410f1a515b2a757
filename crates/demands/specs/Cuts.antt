-- To believe: how many cuts a fracture weighs (Item 6), of a grid, and of a figure at unit squares.
--
-- Of a grid
--   lines_within p        == the lines strictly between the ends of the piece p, both ways
--   weighed g p          == the cuts of p that are weighed: of a piece with cells of both sorts one for each such line, else none
--   line_pairs n f        == the sum of f i j over the pairs i < j of the lines 0 to n
--   weighed_cuts g        == the cuts weighed over all pieces of the grid g
--   two n, three n       == how many pairs, and how many triples, there are of n lines
--   Ahead, ahead f       == what is told of a figure before it is fractured: its refusal, 2 to 5, or 0 and the cuts to weigh
-- At unit squares. Nothing from here on knows of lines, cells or pieces. The figure F says of each unit square whether it is inside,
-- onX and onY say of each place whether a corner lies at it
--   at a cs v            == a corner of cs lies at the place v along the axis a
--   marks on a c         == how many places from a to below c are marked
--   squares_in F s        == how many unit squares of the rectangle s are inside
--   area s               == how many it has
--   partly F s           == some are inside, and some are not
--   pair_sum on f         == the sum of f u v over the pairs u < v of marked places
--   square_cuts           == over all rectangles from marked places to marked places that are partly inside, the marked places strictly
--                           between their ends, both ways
use Rattle.std.specs.Prelude.{ℕ, suc, ◌+◌, ◌*◌, ◌-◌, ◌/◌, Bool, ◌&&◌, cond, List, map, ltb, eqb}
use Rattle.sum.specs.Sum.{only, over}
use Rattle.recurrence.specs.Scheme.{outside, full, mixed}
use Rattle.figure.specs.declared.Axis.{Axis}
use Rattle.figure.specs.Corners.{Corner, any, coordinate}
use Rattle.figure.specs.Figure.{Figure}
use Rattle.outline.specs.Grid.{Grid}
use Rattle.outline.specs.Inside.{grid}
use Rattle.outline.specs.Promise.{refusal}
use Rattle.piece.specs.Piece.{Piece, box, kind}
use Rattle.shot.specs.Shot.{Shot}

unfoldable pub lines_within : Piece → ℕ
lines_within p = (p.c - suc p.a) + (p.d - suc p.b)

unfoldable pub weighed : Grid → Piece → ℕ
weighed g p = elim (kind g p) [ outside ↦ 0 | full ↦ 0 | mixed ↦ lines_within p ]

unfoldable pub line_pairs : ℕ → (ℕ → ℕ → ℕ) → ℕ
line_pairs n f = over 0 n (λ i. over (suc i) (suc n) (f i))

unfoldable pub weighed_cuts : Grid → ℕ
weighed_cuts g = line_pairs g.columns (λ a c. line_pairs g.rows (λ b d. weighed g (box a c b d)))

abbrev pub two : ℕ → ℕ
two n = (n * (n - 1)) / 2

abbrev pub three : ℕ → ℕ
three n = (n * (n - 1) * (n - 2)) / 6

pub record Ahead : Type 0 where
  pub number : ℕ
  pub cuts : ℕ

unfoldable pub ahead : Figure → Ahead
ahead f = record { number = refusal f; cuts = cond (eqb (refusal f) 0) (weighed_cuts (grid f)) 0 }

unfoldable pub at : Axis → List Corner → ℕ → Bool
at a cs v = any (eqb v) (map (coordinate a) cs)

unfoldable pub marks : (ℕ → Bool) → ℕ → ℕ → ℕ
marks on a c = over a c (λ v. only (on v) 1)

unfoldable pub squares_in : (ℕ → ℕ → Bool) → Shot → ℕ
squares_in F s = over s.xlow s.xhigh (λ x. over s.ylow s.yhigh (λ y. only (F x y) 1))

unfoldable pub area : Shot → ℕ
area s = (s.xhigh - s.xlow) * (s.yhigh - s.ylow)

unfoldable pub partly : (ℕ → ℕ → Bool) → Shot → Bool
partly F s = ltb 0 (squares_in F s) && ltb (squares_in F s) (area s)

-- no place is above 65,535
unfoldable pub pair_sum : (ℕ → Bool) → (ℕ → ℕ → ℕ) → ℕ
pair_sum on f = over 0 65536 (λ u. only (on u) (over (suc u) 65536 (λ v. only (on v) (f u v))))

unfoldable pub square_cuts : (ℕ → ℕ → Bool) → (ℕ → Bool) → (ℕ → Bool) → ℕ
square_cuts F onX onY =
    pair_sum onX
    (λ x u.
    pair_sum onY
    (λ y v.
    only (partly F (record { xlow = x; ylow = y; xhigh = u; yhigh = v })) (marks onX (suc x) u + marks onY (suc y) v)))
