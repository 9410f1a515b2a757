-- To believe: a figure, and what refusals 2, 3 and 4 say of it.
--
--   Figure           == what a call is handed: the numbers x, y, x, y, .. of all corners, ring after ring, and how many corners each
--                       ring has
--   figure l ns      == the figure of these numbers and lengths
--   least_corners     == no ring has fewer corners
--   most_corners      == no figure has more, in all its rings together
--   most_rings        == nor more rings
--   most_place        == the highest place, in nm
--   share ns l       == the numbers l shared out: two for each corner of the first ring, then of the next
--   rings f          == its rings: the corners of each
--   corners_of f      == its corners, ring after ring
--   edges_of f        == its edges, each ring closed
--   turns_of f        == its turns: three corners of a ring in a row
--   total f          == how many corners its ring lengths announce
--   bad_length n      == a ring has 4 to 32 corners
--   bad_figure f      == 2: a bad ring count, ring length or total
--   BadLengths f     == the same in words: no ring or more than 8, a ring of fewer than 4 corners or of more than 32, more than 32 in all, or
--                       not two numbers for each corner
--   fault f          == the first of 2, 3, 4 whose condition holds of f, 0 where none does
--   shape_no          == the number of each answer of `shape_of`; 0 where the figure is right_angled
use Rattle.std.specs.Prelude.{ℕ, ◌*◌, ◌<◌, ◌≡◌, ◌⊎◌, Bool, cond, not, ◌||◌, ltb, eqb, length, take, drop, Result, Ok, Err, ⊤}
use mathlib.Core.List.{List, [], ◌∷◌, map, Memᴰ as Member}
use Rattle.sum.specs.Sum.{sum_of, join}
use Rattle.refusal.specs.declared.Refusal.{Refusal}
use Rattle.refusal.specs.declared.Refusal.TheVariants as because
use Rattle.refusal.specs.Refusals.{refusal_no}
use Rattle.figure.specs.Corners.{Corner, Link, Turn, corners, edges, turns, any, slanted, unturned}

pub record Figure : Type 0 where
  pub numbers : List ℕ
  pub lengths : List ℕ

abbrev pub figure : List ℕ → List ℕ → Figure
figure l ns = record { numbers = l; lengths = ns }

abbrev pub least_corners : ℕ
least_corners = 4

abbrev pub most_corners : ℕ
most_corners = 32

abbrev pub most_rings : ℕ
most_rings = 8

abbrev pub most_place : ℕ
most_place = 65535

unfoldable pub share : List ℕ → List ℕ → List (List ℕ)
share [] l = []
share (n ∷ ns) l = take (2 * n) l ∷ share ns (drop (2 * n) l)

abbrev pub rings : Figure → List (List Corner)
rings f = map corners (share f.lengths f.numbers)

abbrev pub corners_of : Figure → List Corner
corners_of f = join (λ r. r) (rings f)

abbrev pub edges_of : Figure → List (Link Corner)
edges_of f = join edges (rings f)

abbrev pub turns_of : Figure → List Turn
turns_of f = join turns (rings f)

abbrev pub total : Figure → ℕ
total f = sum_of (λ n. n) f.lengths

unfoldable pub bad_length : ℕ → Bool
bad_length n = ltb n least_corners || ltb most_corners n

unfoldable pub bad_figure : Figure → Bool
bad_figure f =
    (eqb (length f.lengths) 0 || ltb most_rings (length f.lengths))
    || (any bad_length f.lengths || (ltb most_corners (total f) || not (eqb (length f.numbers) (2 * total f))))

abbrev pub BadLengths : Figure → Type 0
BadLengths f =
    (length f.lengths ≡ 0)
    ⊎ ((most_rings < length f.lengths)
    ⊎ (((n : ℕ) × Member n f.lengths × ((n < least_corners) ⊎ (most_corners < n)))
    ⊎ ((most_corners < total f) ⊎ (length f.numbers ≡ 2 * total f → ⊥))))

unfoldable pub fault : Figure → ℕ
fault f =
    cond (bad_figure f) (refusal_no because.Length)
    (cond (any slanted (rings f)) (refusal_no because.Slanted)
    (cond (any unturned (rings f)) (refusal_no because.Unturned)
    0))

abbrev pub shape_no : Result ⊤ Refusal → ℕ
shape_no (Ok none) = 0
shape_no (Err why) = refusal_no why
